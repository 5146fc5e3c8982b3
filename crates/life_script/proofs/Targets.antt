-- A text spells one target at most.
use Rattle.std.proofs.Common.{◌≡◌, List, ℕ, [], Option, ap₂, subst}
use Rattle.std.proofs.Props.{props}
use Rattle.std.specs.Prelude.{IsSome}
use Rattle.std.specs.Option.{ForSome, ForNone}
use Rattle.http_uri.specs.declared.uri.Uri.{Uri}
use Rattle.http_uri.specs.Uri.{Spells, uri_scheme, uri_authority, uri_data}
use Rattle.http_uri.proofs.Theorems.{Spells_unique}

abbrev Absolute : Option (List ℕ) → Option (List ℕ) → Type 0
Absolute scheme authority = ForSome scheme (λ _. IsSome authority)

abbrev AuthorityAlone : Option (List ℕ) → Option (List ℕ) → List ℕ → Type 0
AuthorityAlone scheme authority kept = ForNone scheme (ForSome authority (λ _. kept ≡ []))

-- each fact that a target keeps has one proof
absolute_prop : (scheme authority : Option (List ℕ)) → IsProp (Absolute scheme authority)
absolute_prop scheme authority = hlevel props

alone_prop : (scheme authority : Option (List ℕ)) (kept : List ℕ) → IsProp (AuthorityAlone scheme authority kept)
alone_prop scheme authority kept = hlevel props

abbrev target : (scheme authority : Option (List ℕ)) (kept : List ℕ) → Absolute scheme authority → AuthorityAlone scheme authority kept → Uri
target scheme authority kept x y = record { scheme = scheme; authority = authority; path_and_query = kept; absolute = x; authority_alone = y }

abbrev IsTarget : Uri → Option (List ℕ) → Option (List ℕ) → List ℕ → Type 0
IsTarget u scheme authority kept = (x : Absolute scheme authority) (y : AuthorityAlone scheme authority kept) → u ≡ target scheme authority kept x y

-- a target is known by its parts
same_parts : (u v : Uri) → uri_scheme u ≡ uri_scheme v → uri_authority u ≡ uri_authority v → uri_data u ≡ uri_data v → u ≡ v
same_parts u v s a d =
    let here : IsTarget u (uri_scheme u) (uri_authority u) (uri_data u) =
    λ x y. ap₂ (target (uri_scheme u) (uri_authority u) (uri_data u)) (absolute_prop _ _ u.absolute x) (alone_prop _ _ _ u.authority_alone y) in
    subst (IsTarget u (uri_scheme v) (uri_authority v)) d (
    subst (λ authority. IsTarget u (uri_scheme v) authority (uri_data u)) a (
    subst (λ scheme. IsTarget u scheme (uri_authority u) (uri_data u)) s here)) v.absolute v.authority_alone

pub one_target : (text : List ℕ) (u v : Uri) → Spells text u → Spells text v → u ≡ v
one_target text u v h g = let same = Spells_unique text u v h g in same_parts u v same.0 same.1 same.2
