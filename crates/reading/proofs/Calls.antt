-- What a call leaves: the text is read, or nothing is; and what a caller whose room is long enough knows of it.
use mathlib.Core.Path.{◌≡◌, refl, sym, ap, ◌∙◌}
use mathlib.Core.Bool.{Bool, true, false}
use mathlib.Core.List.{List}
use Prim.Native.Nat.{ℕ, ◌≤◌, ◌<◌}
use borrow.Author.Tests.{le-leb, lt-leb}
use lib.ListN.{length, take, drop, replicate}
use lib.Seq.{take_at}
use Rattle.std.specs.Prelude.{Option, Some, None, is_some}
use Rattle.std.proofs.lemmas.Option.{same_Some}
use Rattle.reading.specs.Reading.{well_formed, numbers_in}
use Rattle.reading.specs.Found.{Found}
use Rattle.reading.specs.Call.{ReadAnswer, read_into, after_reading}

-- ---- the cases

pub short_room : (text room cleared : List ℕ) → length room < 16384 → cleared ≡ replicate (length room) 0
    → record { answer = None; room = cleared } ≡ after_reading text room
unfolding after_reading
short_room text room cleared h e = rw (lt-leb 16384 (length room) h, e)

module _ (text room : List ℕ) (long : 16384 ≤ length room) (room' : List ℕ) where
  pub nothing_read : (r : Option ℕ) → Found text room r room' → is_some r ≡ false → (cleared : List ℕ) → cleared ≡ replicate (length room') 0 → length room' ≡ length room
      → record { answer = r; room = cleared } ≡ after_reading text room
  unfolding after_reading
  nothing_read None found h cleared e same = rw (le-leb 16384 (length room) long, ← found.good, e, same)
  nothing_read (Some n) found h cleared e same = cc

  pub all_read : (r : Option ℕ) → Found text room r room' → is_some r ≡ true → record { answer = r; room = room' } ≡ after_reading text room
  unfolding after_reading
  all_read None found h = cc
  all_read (Some n) found h = rw (le-leb 16384 (length room) long, ← found.good, found.count n refl, found.numbers n refl)

-- ---- what a caller knows whose room is long enough

module _ (text room : List ℕ) (long : 16384 ≤ length room) (r : Option ℕ) (room' : List ℕ) (left : record { answer = r; room = room' } ≡ after_reading text room) where
  by_form : record { answer = r; room = room' } ≡ read_into (well_formed text) (numbers_in text) room
  unfolding after_reading
  by_form = left ∙ rw (le-leb 16384 (length room) long)

  pub malformed : r ≡ None → well_formed text ≡ false
  malformed e = go (well_formed text) (sym e ∙ ap (λ (a : ReadAnswer). a.answer) by_form)
    where
      go : (b : Bool) → None ≡ (read_into b (numbers_in text) room).answer → b ≡ false
      go true q = cc
      go false q = refl

  module _ (n : ℕ) (e : r ≡ Some n) where
    pub well_formed_lem : well_formed text ≡ true
    well_formed_lem = go (well_formed text) (sym e ∙ ap (λ (a : ReadAnswer). a.answer) by_form)
      where
        go : (b : Bool) → Some n ≡ (read_into b (numbers_in text) room).answer → b ≡ true
        go true q = refl
        go false q = cc

    by_numbers_lem : record { answer = Some n; room = room' } ≡ read_into true (numbers_in text) room
    by_numbers_lem = ap (λ (q : Option ℕ). record { answer = q; room = room' }) (sym e) ∙ by_form ∙ ap (λ (b : Bool). read_into b (numbers_in text) room) well_formed_lem

    pub how_many : n ≡ length (numbers_in text)
    how_many = same_Some _ _ (ap (λ (a : ReadAnswer). a.answer) by_numbers_lem)

    pub numbers_there : take n room' ≡ numbers_in text
    numbers_there = ap (λ (a : ReadAnswer). take n a.room) by_numbers_lem ∙ take_at (numbers_in text) (drop (length (numbers_in text)) room) n (sym how_many)
