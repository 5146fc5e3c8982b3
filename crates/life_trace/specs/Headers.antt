-- Headers that are told where they are asked for.
use Rattle.std.specs.Prelude.{Bool, Option, Some, None, if◌then◌else◌}
use Rattle.http_header.specs.FieldValue.{FieldValue}
use Rattle.http_header.specs.HeaderMap.{Entries}
use Rattle.life_core.specs.Fields.{fields}
use Rattle.life_core.specs.declared.fields.Shown.{Shown}

-- the headers as they are shown, or none
abbrev pub headers_told : Bool → Entries FieldValue → Option (Entries Shown)
headers_told include headers = if include then Some (fields headers) else None
