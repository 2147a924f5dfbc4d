-- One byte of a text: what it does to where reading stands, by the definitions of that.
use mathlib.Core.Path.{◌≡◌, refl}
use mathlib.Core.Logic.{◌≢◌}
use mathlib.Core.Bool.{true, false}
use mathlib.Core.List.{List}
use Prim.Native.Nat.{ℕ, ◌+◌, ◌≤◌, ◌<◌}
use borrow.Author.Tests.{lt-ltb, le-ltb, eq-eqb, ne_eqb}
use lib.ListN.{set}
use Rattle.std.specs.Prelude.{Some}
use Rattle.reading.specs.declared.Progress.{Progress}
use Rattle.reading.specs.Reading.{is_gap}
use Rattle.reading.specs.Standing.{standing, going, lost, digit_added, number_ended, byte_taken}

-- ---- what is lost stays so

module _ (room : List ℕ) where
  pub lost_ended : number_ended (standing lost room) ≡ standing lost room
  unfolding number_ended
  lost_ended = refl

  pub lost_taken : (b : ℕ) → byte_taken b (standing lost room) ≡ standing lost room
  unfolding byte_taken
  lost_taken b = refl

module _ (p : Progress) (room : List ℕ) where
  -- ---- the number under way is done

  pub no_number : p.digits ≡ 0 → number_ended (standing (Some p) room) ≡ standing (Some p) room
  unfolding number_ended
  no_number h = rw (eq-eqb p.digits 0 h)

  module _ (some : p.digits ≢ 0) where
    pub no_place : 16384 ≤ p.count → number_ended (standing (Some p) room) ≡ standing lost room
    unfolding number_ended
    no_place h = rw (ne_eqb p.digits 0 some, le-ltb p.count 16384 h)

    pub stored : p.count < 16384 → number_ended (standing (Some p) room) ≡ standing (going (p.count + 1) 0 0) (set room p.count p.value)
    unfolding number_ended
    stored h = rw (ne_eqb p.digits 0 some, lt-ltb p.count 16384 h)

  -- ---- the byte is taken

  module _ (b : ℕ) where
    pub by_gap : is_gap b ≡ true → byte_taken b (standing (Some p) room) ≡ number_ended (standing (Some p) room)
    unfolding byte_taken
    by_gap h = rw h

    pub by_other : is_gap b ≡ false → byte_taken b (standing (Some p) room) ≡ standing (digit_added b p) room
    unfolding byte_taken
    by_other h = rw h
