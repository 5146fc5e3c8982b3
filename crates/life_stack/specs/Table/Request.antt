-- A request as its story sees it: its number, its id and its headers.
use Rattle.std.specs.Prelude.{ℕ, unwrap_or, decimal}
use Rattle.http_header.specs.FieldValue.{plain_value, FieldValue}
use Rattle.http_header.specs.HeaderMap.{Entries}
use Rattle.life_core.specs.Fields.{fields}
use Rattle.life_core.specs.declared.fields.Shown.{Shown}
use Rattle.life_script.specs.Headers.{Headers, first_value, map_of, with_missing}
use Rattle.life_script.specs.Scenario.{ScriptView}
use Rattle.life_head.specs.Ids.{x_request_id_name}

-- header fields as they are shown: each name once with its values in order, sorted by name
abbrev pub shown_headers : Headers → Entries Shown
shown_headers headers = fields (map_of headers)

-- THE NUMBER AND THE ID.

-- a script with its number in the scenario
pub record Numbered : Type 0 where
  pub number : ℕ
  pub script : ScriptView

-- script i of a scenario
abbrev pub numbered : ℕ → ScriptView → Numbered
numbered i script = record { number = i; script = script }

-- the first id that the request brings, else its number in decimal
abbrev pub ident : Numbered → FieldValue
ident request = unwrap_or (first_value x_request_id_name request.script.headers) (plain_value (decimal request.number))

-- the headers with the id at the end, where they have none
abbrev pub identified : FieldValue → Headers → Headers
identified id headers = with_missing x_request_id_name id headers
