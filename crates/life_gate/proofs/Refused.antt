-- An error that is handed on under another type is the same error.
use Rattle.std.proofs.Common.{◌≡◌, Err, Result, ap}
use Rattle.std.specs.Prelude.{◌↔◌, IsErrOf}

same_error : {T E : Type 0} (e x : E) → IsErrOf {T = T} (Err e) x → e ≡ x
same_error e x h = cc h

as_error : {T E : Type 0} (e x : E) → e ≡ x → IsErrOf {T = T} (Err e) x
as_error {E = E} e x h = ap (λ (y : E). Err y) h

pub handed_on : {T U E : Type 0} (r : Result U E) (e x : E) (P : Type 0) → r ≡ Err e → (IsErrOf {T = T} (Err e) x ↔ P) → (IsErrOf r x ↔ P)
handed_on {T = T} r e x P same h = rw same ((λ q. h.0 (as_error {T = T} e x (same_error e x q)), λ p. as_error e x (same_error {T = T} e x (h.1 p))))
