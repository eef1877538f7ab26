-- The status names. Definitions only.
use Rattle.std.specs.Prelude.{ℕ, cond, List, [], ◌∷◌, eqb}
use Prim.Native.String.{String}
use Rattle.protocol_status.specs.declared.StatusName.{StatusName}
use Rattle.protocol_status.specs.declared.StatusName.TheVariants.{Disabled, Enabled, OverVoltage, UnderVoltage, OverCurrent, MosOverTemp, RotorOverTemp, LostComm, Overload, Unknown}

abbrev pub lookup : List (ℕ × StatusName) → ℕ → StatusName
lookup [] status = Unknown
lookup (entry ∷ entries) status = cond (eqb status entry.0) entry.1 (lookup entries status)

-- 'The feedback on the screen', status names: nine numbers have one, and every other is unknown
unfoldable pub status_name : ℕ → StatusName
status_name status =
    lookup
    ((0, Disabled)
    ∷ (1, Enabled)
    ∷ (8, OverVoltage)
    ∷ (9, UnderVoltage)
    ∷ (10, OverCurrent)
    ∷ (11, MosOverTemp)
    ∷ (12, RotorOverTemp)
    ∷ (13, LostComm)
    ∷ (14, Overload)
    ∷ [])
    status

-- as protocol.rs spells them
abbrev pub spelt : StatusName → String
spelt Disabled = "DISABLED"
spelt Enabled = "ENABLED"
spelt OverVoltage = "OVER_VOLTAGE"
spelt UnderVoltage = "UNDER_VOLTAGE"
spelt OverCurrent = "OVER_CURRENT"
spelt MosOverTemp = "MOS_OVER_TEMP"
spelt RotorOverTemp = "ROTOR_OVER_TEMP"
spelt LostComm = "LOST_COMM"
spelt Overload = "OVERLOAD"
spelt Unknown = "UNKNOWN"
