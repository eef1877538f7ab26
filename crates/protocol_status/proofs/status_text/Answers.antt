-- `protocol_status::status_text` meets its contract. Assumes nothing.
use Rattle.std.proofs.Common.{◌≡◌, ◌∙◌, refl, sym, ap, List, ℕ, Bor}
use Rattle.motor_core.specs.Name.{name_of, name_from}
use Rattle.protocol_status.specs.Status.{spelt}
use Rattle.protocol_status.specs.declared.StatusName.{StatusName}
use Rattle.protocol_status.proofs.status_text.Goals as goal
use Rattle.protocol_status.proofs.status_text.Goals.{in-Disabled, in-Enabled, in-OverVoltage, in-UnderVoltage, in-OverCurrent, in-MosOverTemp, in-RotorOverTemp, in-LostComm, in-Overload, in-Unknown}

-- the name that an arm's text makes
made : {text arm : Bor (List ℕ)} {name case : StatusName} → text ≡ arm → name ≡ case → name_from arm.now ≡ name_of (spelt case) → name_from text.now ≡ name_of (spelt name)
made t n e = ap (λ (b : Bor (List ℕ)). name_from b.now) t ∙ e ∙ sym (ap (λ (m : StatusName). name_of (spelt m)) n)

pub returns : goal.returns
unfolding name_of name_from
returns c =
    c.new.ensures
    ∙ elim c.match-name.branch [
      | in-Disabled w ↦ made w.new-is w.in-Disabled.is refl
      | in-Enabled w ↦ made w.new-is w.in-Enabled.is refl
      | in-OverVoltage w ↦ made w.new-is w.in-OverVoltage.is refl
      | in-UnderVoltage w ↦ made w.new-is w.in-UnderVoltage.is refl
      | in-OverCurrent w ↦ made w.new-is w.in-OverCurrent.is refl
      | in-MosOverTemp w ↦ made w.new-is w.in-MosOverTemp.is refl
      | in-RotorOverTemp w ↦ made w.new-is w.in-RotorOverTemp.is refl
      | in-LostComm w ↦ made w.new-is w.in-LostComm.is refl
      | in-Overload w ↦ made w.new-is w.in-Overload.is refl
      | in-Unknown w ↦ made w.new-is w.in-Unknown.is refl
    ]
