-- The fields of headers that are written out compute.
use Rattle.std.proofs.Common.{◌≡◌, [], ◌∷◌, refl, codes}
use Rattle.http_header.specs.FieldValue.{plain_value}
use Rattle.life_core.specs.declared.fields.Shown.TheVariants.{Plain}
use Rattle.life_core.specs.Fields.{fields}

none : fields [] ≡ []
none = refl

unsorted : fields ((codes "b", plain_value (codes "2") ∷ plain_value (codes "1") ∷ []) ∷ (codes "ab", plain_value [] ∷ []) ∷ (codes "a", plain_value (codes "0") ∷ []) ∷ [])
    ≡ (codes "a", Plain (codes "0") ∷ []) ∷ (codes "ab", Plain [] ∷ []) ∷ (codes "b", Plain (codes "2") ∷ Plain (codes "1") ∷ []) ∷ []
unsorted = refl
