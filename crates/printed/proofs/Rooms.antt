-- What a call leaves in its rooms: nothing is written where one is too short, and otherwise the text, which fits, is whole at the front; the others are zero where the numbers
-- were worked, and as they were where they were refused.
use mathlib.Core.Path.{◌≡◌, subst}
use mathlib.Core.Bool.{Bool, true, false, ◌&&◌}
use mathlib.Core.List.{List}
use Prim.Native.Nat.{ℕ, ◌≤◌, ◌<◌}
use native.Mathlib.Nat.{le_trans}
use borrow.Author.Tests.{leb-true, le-leb, lt-leb}
use lib.Dec.{leb}
use lib.ListN.{length, replicate}
use Rattle.std.specs.Prelude.{Some, None}
use Rattle.basics.proofs.Bools.{and_left, and_right}
use Rattle.writing.specs.Put.{Put}
use Rattle.writing.proofs.Putting.{put_whole}
use Rattle.printed.specs.Rooms.{Rooms, Wrote, long_enough, enough, NumbersWritten, written, text_written}

pub rooms_long : (bytes a b c d : ℕ) → long_enough bytes a b c d ≡ true → (320 ≤ a) × (25920 ≤ b) × (4097 ≤ c)
rooms_long bytes a b c d h =
    let three = and_left (leb 320 a && leb 25920 b && leb 4097 c) (leb bytes d) h in
    let two = and_left (leb 320 a && leb 25920 b) (leb 4097 c) three in (
      leb-true 320 a (and_left (leb 320 a) (leb 25920 b) two),
      leb-true 25920 b (and_right (leb 320 a) (leb 25920 b) two),
      leb-true 4097 c (and_right (leb 320 a && leb 25920 b) (leb 4097 c) three),
    )

output_long : (bytes a b c d : ℕ) → long_enough bytes a b c d ≡ true → bytes ≤ d
output_long bytes a b c d h = leb-true bytes d (and_right (leb 320 a && leb 25920 b && leb 4097 c) (leb bytes d) h)

-- what was refused left the rooms as they were
pub wrote_refused : (worked : Bool) (bs : List ℕ) (e : ℕ) (a b : Rooms) → worked ≡ false → Put bs 0 e a.output b.output
    → b.result ≡ a.result → b.work ≡ a.work → b.counts ≡ a.counts → Wrote worked bs e a b
wrote_refused worked bs e a b h done p q s = record { put = done; result = rw h p; work = rw h q; counts = rw h s }

-- what was worked left them zero
pub wrote_worked : (worked : Bool) (bs : List ℕ) (e : ℕ) (a b : Rooms) → worked ≡ true → Put bs 0 e a.output b.output
    → b.result ≡ replicate (length a.result) 0 → b.work ≡ replicate (length a.work) 0 → b.counts ≡ replicate (length a.counts) 0
    → Wrote worked bs e a b
wrote_worked worked bs e a b h done p q s = record { put = done; result = rw h p; work = rw h q; counts = rw h s }

-- the same, said of a text that is worked where the other is, and gives the same bytes
pub wrote_same : (worked worked' : Bool) (bs bs' : List ℕ) (e : ℕ) (a b : Rooms) → Wrote worked bs e a b → worked ≡ worked' → bs ≡ bs' → Wrote worked' bs' e a b
wrote_same worked worked' bs bs' e a b done p q = subst (λ (w : Bool). Wrote w bs' e a b) p (subst (λ (t : List ℕ). Wrote worked t e a b) q done)

module _ (bytes : ℕ) (worked : Bool) (bs : List ℕ) (r : Rooms) where
  pub written_none : enough bytes r ≡ false → record { answer = None; rooms = r } ≡ written (enough bytes r) worked bs r
  written_none h = rw h

  pub written_all : length bs ≤ bytes → enough bytes r ≡ true → (e : ℕ) (rs ws cs o : List ℕ) → Wrote worked bs e r (record { result = rs; work = ws; counts = cs; output = o })
      → record { answer = Some e; rooms = record { result = rs; work = ws; counts = cs; output = o } } ≡ written (enough bytes r) worked bs r
  written_all short h e rs ws cs o done =
      let long = output_long bytes (length r.result) (length r.work) (length r.counts) (length r.output) h in
      let all = put_whole bs e r.output o done.put (le_trans short long) in
      rw h (λ i. record { answer = Some (all i).end; rooms = record { result = done.result i; work = done.work i; counts = done.counts i; output = (all i).room } })

module _ (bytes : ℕ) (worked : Bool) (bs numbers : List ℕ) (r : Rooms) where
  pub few_numbers : length numbers < 16384 → record { answer = None; numbers = numbers; rooms = r } ≡ text_written (enough bytes r) worked bs numbers r
  few_numbers l = rw (lt-leb 16384 (length numbers) l)

  module _ (l : 16384 ≤ length numbers) where
    pub text_none : enough bytes r ≡ false → record { answer = None; numbers = numbers; rooms = r } ≡ text_written (enough bytes r) worked bs numbers r
    text_none h = rw (le-leb 16384 (length numbers) l, h)

    pub text_all : enough bytes r ≡ true → (a : NumbersWritten) (ns : List ℕ) → ns ≡ replicate (length numbers) 0 → a ≡ written (enough bytes r) worked bs r
        → record { answer = a.answer; numbers = ns; rooms = a.rooms } ≡ text_written (enough bytes r) worked bs numbers r
    text_all h a ns p q = rw (le-leb 16384 (length numbers) l, p, q, h)
