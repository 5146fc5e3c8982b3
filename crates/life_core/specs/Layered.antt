-- What layers and builders hold.
use Rattle.life_core.specs.declared.builder.ServiceBuilder.{ServiceBuilder}
use Rattle.life_core.specs.declared.layer.Identity.{Identity}
use Rattle.life_core.specs.declared.layer.Stack.{Stack}

-- the layer that puts nothing round a service
abbrev pub identity : Identity
identity = record {}

-- one layer inside another
abbrev pub stacked : {I O : Type 0} → I → O → Stack I O
stacked inner outer = record { inner = inner; outer = outer }

-- a builder that holds this layer
abbrev pub built : {L : Type 0} → L → ServiceBuilder L
built layer = record { layer = layer }

-- the layer that a builder holds
abbrev pub layer_of : {L : Type 0} → ServiceBuilder L → L
layer_of builder = builder.layer

-- the outer layer's service round the inner layer's
abbrev pub round_both : {S T U I O : Type 0} → (I → S → T) → (O → T → U) → Stack I O → S → U
round_both inner outer layers s = outer layers.outer (inner layers.inner s)
