-- Hooks that do nothing.
use Rattle.std.specs.Prelude.{◌≡◌, Ok}
use Rattle.life_trace.specs.Hooks.{Stays, Ends}

-- nothing is recorded, no memory is wanted, and the hook stays
abbrev pub Silent : {H : Type 0} → H → Stays H
Silent old was answer new now = (answer ≡ Ok tt) × (new ≡ old) × (now ≡ was)

-- the same of a hook that is called once
abbrev pub SilentEnd : Ends
SilentEnd was answer now = (answer ≡ Ok tt) × (now ≡ was)
