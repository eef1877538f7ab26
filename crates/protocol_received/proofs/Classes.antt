-- The class of three bytes, from the tests that sorting makes. Assumes nothing.
use mathlib.Core.Path.{◌≡◌, refl, sym, ap, ◌∙◌}
use mathlib.Core.Bool.{Bool, true, false, ◌&&◌, ◌||◌, cond, true≢false}
use mathlib.Core.List.{List}
use Prim.Native.Nat.{ℕ}
use lib.Dec.{leb, eqb}
use borrow.Author.Tests.{eqb-true}
use Rattle.registers.specs.Registers.{registers, known, elem}
use Rattle.protocol_received.specs.Received.{class}
use Rattle.protocol_received.specs.declared.FrameClass.{FrameClass}
use Rattle.protocol_received.specs.declared.FrameClass.TheVariants.{Reply, Ack, Feedback}

-- by the tests of d1, of the two markers and of the register
abbrev pub by_tests : Bool → Bool → Bool → Bool → FrameClass
by_tests low reply ack register = cond (low && (reply && register)) Reply (cond (low && (ack && register)) Ack Feedback)

tested : (d1 d2 d3 : ℕ) → by_tests (leb d1 0x0f) (eqb d2 0x33) (eqb d2 0x55) (known d3) ≡ class registers d1 d2 d3
unfolding class known
tested d1 d2 d3 = refl

-- whether d1 and d2 are a register frame's
abbrev pub marks : ℕ → ℕ → Bool
marks d1 d2 = leb d1 0x0f && (eqb d2 0x33 || eqb d2 0x55)

pub unmarked : (d1 d2 d3 : ℕ) → marks d1 d2 ≡ false → Feedback ≡ class registers d1 d2 d3
unmarked d1 d2 d3 e = go (leb d1 0x0f) (eqb d2 0x33) (eqb d2 0x55) (known d3) e ∙ tested d1 d2 d3
  where
    go : (low reply ack register : Bool) → (low && (reply || ack)) ≡ false → Feedback ≡ by_tests low reply ack register
    go false reply ack register e = refl
    go true false false register e = refl
    go true true ack register e = absurd (true≢false e)
    go true false true register e = absurd (true≢false e)

pub unlisted : (d1 d2 d3 : ℕ) → known d3 ≡ false → Feedback ≡ class registers d1 d2 d3
unlisted d1 d2 d3 e = go (leb d1 0x0f) (eqb d2 0x33) (eqb d2 0x55) (known d3) e ∙ tested d1 d2 d3
  where
    go : (low reply ack register : Bool) → register ≡ false → Feedback ≡ by_tests low reply ack register
    go low reply ack true e = absurd (true≢false e)
    go false reply ack false e = refl
    go true true true false e = refl
    go true true false false e = refl
    go true false true false e = refl
    go true false false false e = refl

pub marked : (d1 d2 d3 : ℕ) (reply : Bool) → marks d1 d2 ≡ true → known d3 ≡ true → eqb d2 0x33 ≡ reply → cond reply Reply Ack ≡ class registers d1 d2 d3
marked d1 d2 d3 reply e k f = ap (λ (b : Bool). cond b Reply Ack) (sym f) ∙ go (leb d1 0x0f) (eqb d2 0x33) (eqb d2 0x55) (known d3) e k ∙ tested d1 d2 d3
  where
    go : (low reply ack register : Bool) → (low && (reply || ack)) ≡ true → register ≡ true → cond reply Reply Ack ≡ by_tests low reply ack register
    go false reply ack register e k = absurd (true≢false (sym e))
    go true false false register e k = absurd (true≢false (sym e))
    go true true ack false e k = absurd (true≢false (sym k))
    go true false true false e k = absurd (true≢false (sym k))
    go true true ack true e k = refl
    go true false true true e k = refl

-- a frame that is no feedback names a register of the list, and has its marker
abbrev Names : FrameClass → Bool → Bool → Bool → Type 0
Names Reply reply ack register = (register ≡ true) × (reply ≡ true)
Names Ack reply ack register = (register ≡ true) × (ack ≡ true)
Names Feedback reply ack register = Unit {0}

names : (rs : List ℕ) (d1 d2 d3 : ℕ) → Names (class rs d1 d2 d3) (eqb d2 0x33) (eqb d2 0x55) (elem d3 rs)
unfolding class
names rs d1 d2 d3 = go (leb d1 0x0f) (eqb d2 0x33) (eqb d2 0x55) (elem d3 rs)
  where
    go : (low reply ack register : Bool) → Names (by_tests low reply ack register) reply ack register
    go false reply ack register = tt
    go true true ack true = (refl, refl)
    go true true true false = tt
    go true true false false = tt
    go true false true true = (refl, refl)
    go true false true false = tt
    go true false false register = tt

pub of_reply : (d1 d2 d3 : ℕ) → class registers d1 d2 d3 ≡ Reply → (known d3 ≡ true) × (d2 ≡ 0x33)
unfolding known
of_reply d1 d2 d3 e = let (register, reply) = rw e at (names registers d1 d2 d3) in (register, eqb-true d2 0x33 reply)

pub of_ack : (d1 d2 d3 : ℕ) → class registers d1 d2 d3 ≡ Ack → (known d3 ≡ true) × (d2 ≡ 0x55)
unfolding known
of_ack d1 d2 d3 e = let (register, ack) = rw e at (names registers d1 d2 d3) in (register, eqb-true d2 0x55 ack)
