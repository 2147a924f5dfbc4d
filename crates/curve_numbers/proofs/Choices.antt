-- What an answer says of the choice that numbers begin with.
use mathlib.Core.Path.{◌≡◌, refl, sym}
use mathlib.Core.Bool.{Bool, true, false, cond}
use mathlib.Core.List.{List}
use Prim.Native.Nat.{ℕ, ◌≤◌}
use borrow.Author.Tests.{leb-true}
use lib.Dec.{leb}
use lib.ListN.{length, get_or}
use Rattle.std.specs.Prelude.{Some, None}
use Rattle.std.proofs.lemmas.Option.{none-some, cond_some}
use Rattle.basics.proofs.Bools.{and_left}
use Rattle.curve_numbers.specs.declared.Choice.{Choice}
use Rattle.curve_numbers.specs.Choices.{chooses, choice_in, chosen_in}

module _ (ns : List ℕ) where
  pub nothing_chosen : None ≡ chosen_in ns → chooses ns ≡ false
  unfolding chosen_in
  nothing_chosen e = go (chooses ns) e
    where
      go : (b : Bool) → None ≡ cond b (Some (choice_in ns)) None → b ≡ false
      go true h = absurd (none-some _ h)
      go false h = refl

  module _ (ch : Choice) (e : Some ch ≡ chosen_in ns) where
    pub is_chosen : chooses ns ≡ true
    unfolding chosen_in
    is_chosen = (cond_some (chooses ns) (choice_in ns) ch (sym e)).0

    pub chosen_is : ch ≡ choice_in ns
    unfolding chosen_in
    chosen_is = sym (cond_some (chooses ns) (choice_in ns) ch (sym e)).1

    pub chosen_long : 3 ≤ length ns
    unfolding chooses
    chosen_long = leb-true 3 (length ns) (and_left (leb 3 (length ns)) (leb (get_or ns 2 0) 1) is_chosen)
