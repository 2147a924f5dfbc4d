-- The head of a run. One that is made of a run's states and streams says what they are; when what is next of it has come, it goes on to the next stream, and what is to come then and what
-- has come are what was to come; and where the stream that is next loses nothing it is the last.
use mathlib.Core.Path.{◌≡◌, refl, sym, ap, ◌∙◌, subst}
use mathlib.Core.Logic.{◌≢◌}
use mathlib.Core.Bool.{Bool, true, false, cond, ◌||◌, true≢false}
use mathlib.Core.List.{List, map}
use Prim.Native.Nat.{ℕ, ◌+◌, ◌*◌, ◌%◌, ◌^◌, ◌≤◌, ◌<◌}
use native.Mathlib.Decide.{dec_lt, ℕ_discrete}
use native.Mathlib.Omega.{arith}
use lib.Bits.{bit_or, or_shifted_r}
use lib.Dec.{eqb, ltb}
use lib.ListN.{length, take, drop}
use borrow.Author.Tests.{lt-ltb, le-ltb, ltb-true, eq-eqb, ne_eqb, eqb-true}
use Rattle.rules.specs.declared.State.{State}
use Rattle.rules.specs.declared.Target.{Target}
use Rattle.rules.specs.Contents.{bit, hits, shared, with, without}
use Rattle.rules.specs.Shape.{Every, Listed}
use Rattle.rules.specs.Table.{add, state_at}
use Rattle.rules.proofs.Bits.{bit_or_lem, bit_pow, bit_zero, bit_beyond, bit_below}
use Rattle.rules.proofs.Contents.{without_same, without_gone, sub_without, without_lt, with_lt, shared_lt}
use Rattle.heads.specs.Head.{streams_in, stream_in, stretch_in, length_in, start_in, contents_in, first_stream, contents_at, head_of, next_head, streams_for}
use Rattle.heads.proofs.Reading.{streams_made, stream_made, stretch_made, length_made, start_made, contents_made, contents_small, first_held_lem, none_lost, less_left}
use Rattle.estimate.specs.Merging.{part, in_all, comes, fills, InRun}
use Rattle.estimate.specs.ToCome.{in_some, run_in, mask_in, to_come, comes_in, Heads, Whole}
use Rattle.estimate.proofs.Runs.{run_alike, run_comes}
use Rattle.estimate.proofs.StillToCome.{some_all, some_none, stream_first}

-- ---- which streams have something

eqb_turn : (a b : ℕ) → eqb a b ≡ eqb b a
eqb_turn a b = go (ℕ_discrete a b)
  where
    go : Dec (a ≡ b) → eqb a b ≡ eqb b a
    go (yes e) = eq-eqb a b e ∙ sym (eq-eqb b a (sym e))
    go (no n) = ne_eqb a b n ∙ sym (ne_eqb b a (λ e. n (sym e)))

hit_stream : (k : ℕ) → k < 19 → eqb 18 k ≡ ltb 17 k
hit_stream k l = go (dec_lt 17 k)
  where
    go : Dec (17 < k) → eqb 18 k ≡ ltb 17 k
    go (yes m) = eq-eqb 18 k (omega arith) ∙ sym (lt-ltb 17 k m)
    go (no m) = ne_eqb 18 k (λ e. absurd (omega arith)) ∙ sym (le-ltb 17 k (omega arith))

lost_stream : (E k : ℕ) → E < 2 ^ 16 → (bit E k || eqb 16 k) ≡ cond (ltb k 16) (bit E k) (eqb k 16)
lost_stream E k l = go (dec_lt k 16)
  where
    or_none : (b : Bool) → (b || false) ≡ b
    or_none true = refl
    or_none false = refl

    go : Dec (k < 16) → (bit E k || eqb 16 k) ≡ cond (ltb k 16) (bit E k) (eqb k 16)
    go (yes m) = rw (lt-ltb k 16 m) (ap (bit E k ||◌) (ne_eqb 16 k (λ e. absurd (omega arith))) ∙ or_none (bit E k))
    go (no m) = rw (le-ltb k 16 (omega arith)) (ap (◌|| eqb 16 k) (bit_beyond 16 E k l (omega arith)) ∙ eqb_turn 16 k)

-- those that a run is given are those that have something of it
pub streams_come : (h f : Bool) (E k : ℕ) → E < 2 ^ 16 → k < 19 → bit (streams_for h f E) k ≡ comes h f E k
unfolding streams_for comes
streams_come true f E k l m = bit_pow 18 k ∙ hit_stream k m
streams_come false true E k l m = bit_pow 17 k ∙ eqb_turn 17 k
streams_come false false E k l m =
    let set : E % 65536 + 65536 ≡ bit_or E (1 * 2 ^ 16) = omega (arith, or_shifted_r 1 16 E l) in
    ap (λ (L : ℕ). bit L k) set ∙ bit_or_lem k E (1 * 2 ^ 16) ∙ ap (bit E k ||◌) (bit_pow 16 k) ∙ lost_stream E k l

pub streams_few : (h f : Bool) (E : ℕ) → streams_for h f E < 524288
unfolding streams_for
streams_few true f E = omega arith
streams_few false true E = omega arith
streams_few false false E = omega arith

pub streams_some : (h f : Bool) (E : ℕ) → streams_for h f E ≢ 0
unfolding streams_for
streams_some true f E e = absurd (omega arith)
streams_some false true E e = absurd (omega arith)
streams_some false false E e = absurd (omega arith)

-- of those that lose nothing only one has something
comes_one : (h f : Bool) (E j k : ℕ) → 15 < j → 15 < k → j < 19 → k < 19 → comes h f E j ≡ true → comes h f E k ≡ true → j ≡ k
unfolding comes
comes_one true f E j k a b c d p q = omega (arith, ltb-true 17 j p, ltb-true 17 k q)
comes_one false true E j k a b c d p q = eqb-true j 17 p ∙ sym (eqb-true k 17 q)
comes_one false false E j k a b c d p q = kept j a p ∙ sym (kept k b q)
  where
    kept : (i : ℕ) → 15 < i → cond (ltb i 16) (bit E i) (eqb i 16) ≡ true → i ≡ 16
    kept i l e = eqb-true i 16 (sym (ap (λ (b : Bool). cond b (bit E i) (eqb i 16)) (le-ltb i 16 (omega arith))) ∙ e)

-- where one that loses has something, so has that which keeps
comes_kept : (h f : Bool) (E k : ℕ) → k < 16 → comes h f E k ≡ true → comes h f E 16 ≡ true
unfolding comes
comes_kept true f E k l e = absurd (omega (arith, ltb-true 17 k e))
comes_kept false true E k l e = absurd (omega (arith, eqb-true k 17 e))
comes_kept false false E k l e = refl

module _ (N : ℕ) (x : Target) (T : List State) where
  -- the accessed block alone
  abbrev own : ℕ
  own = with 0 x.place

  -- ---- a head that is made

  module _ (s n L : ℕ) (low : s < 64) (short : n < 128) (few : L < 524288) where
    abbrev C : ℕ
    C = (state_at T s).mask

    abbrev f : Bool
    f = fills N x (state_at T s)

    abbrev made : ℕ
    made = head_of C own (s * 128 + n) L

    start_is : start_in made ≡ s
    start_is = start_made C own (s * 128 + n) L ∙ omega arith

    length_is : length_in made ≡ n
    length_is = length_made C own (s * 128 + n) L ∙ omega arith

    stretch_is : stretch_in made ≡ s * 128 + n
    stretch_is = stretch_made C own (s * 128 + n) L ∙ omega arith

    pub streams_is : streams_in made ≡ L
    streams_is = streams_made C own (s * 128 + n) L ∙ omega arith

    stream_is : stream_in made ≡ first_stream L
    stream_is = stream_made C own (s * 128 + n) L ∙ ap first_stream (omega arith)

    pub run_is : run_in T made ≡ take n (drop s T)
    run_is = ap (λ (k : ℕ). take k (drop (start_in made) T)) length_is ∙ ap (λ (k : ℕ). take n (drop k T)) start_is

    pub comes_is : (k : ℕ) → comes_in N x T made k ≡ comes (hits x C) f (shared C x.mates) k
    comes_is k = ap (λ (i : ℕ). comes (hits x (state_at T i).mask) (fills N x (state_at T i)) (shared (state_at T i).mask x.mates) k) start_is

    pub made_heads : 1 ≤ n → s + n ≤ length T → Every (InRun N x C f) (take n (drop s T)) → C < 2 ^ 16 → L ≢ 0
        → ((k : ℕ) → bit L k ≡ true → comes (hits x C) f (shared C x.mates) k ≡ true) → ((k : ℕ) → k < 16 → bit L k ≡ true → bit L 16 ≡ true) → Heads N x T made
    made_heads some inside alike small left coming kept = record {
      some = omega (arith, length_is);
      inside = omega (arith, start_is, length_is);
      alike =
          subst (λ (R : List State). Every (InRun N x (mask_in T made) (fills N x (state_at T (start_in made)))) R) (sym run_is)
          (subst (λ (i : ℕ). Every (InRun N x (state_at T i).mask (fills N x (state_at T i))) (take n (drop s T))) (sym start_is) alike);
      small = subst (λ (i : ℕ). (state_at T i).mask < 2 ^ 16) (sym start_is) small;
      says =
          ap (λ (i : ℕ). head_of (state_at T i).mask own (s * 128 + n) L) (sym start_is)
          ∙ ap (λ (R : ℕ). head_of (mask_in T made) own R L) (sym stretch_is)
          ∙ ap (head_of (mask_in T made) own (stretch_in made)) (sym streams_is);
      next = ap (bit (streams_in made)) stream_is ∙ ap (λ (M : ℕ). bit M (first_stream L)) streams_is ∙ first_held_lem L (omega arith) left;
      coming = λ k e. comes_is k ∙ coming k (sym (ap (λ (M : ℕ). bit M k) streams_is) ∙ e);
      kept = λ k l e. ap (λ (M : ℕ). bit M 16) streams_is ∙ kept k l (sym (ap (λ (M : ℕ). bit M k) streams_is) ∙ e);
    }

  -- ---- the head of a run

  module _ (h : ℕ) (head : Heads N x T h) where
    -- the stream that is next
    pub next_is : stream_in h ≡ first_stream (streams_in h)
    next_is =
        ap (λ (g : ℕ). stream_in g) head.says ∙ stream_made (mask_in T h) own (stretch_in h) (streams_in h)
        ∙ ap first_stream (omega arith)

    pub next_below : stream_in h < 19
    next_below = bit_below 19 (streams_in h) (stream_in h) (omega arith) head.next

    -- what it comes to then
    pub contents_is : Listed 16 x.place → contents_in h ≡ contents_at (mask_in T h) own (stream_in h)
    contents_is p =
        ap (λ (g : ℕ). contents_in g) head.says ∙ contents_made (mask_in T h) own (stretch_in h) (streams_in h)
        ∙ ap (λ (k : ℕ). contents_at (mask_in T h) own k % 16777216) (ap first_stream same ∙ sym next_is)
        ∙ omega (arith, contents_small (mask_in T h) own (stream_in h) head.small (with_lt 16 0 x.place (omega arith) p))
      where
        same : streams_in h % 524288 ≡ streams_in h
        same = omega arith

    -- each stream that is left has something of each state
    pub coming_all : (k : ℕ) → bit (streams_in h) k ≡ true → Every (λ s. comes (hits x s.mask) (fills N x s) (shared s.mask x.mates) k ≡ true) (run_in T h)
    coming_all k e =
        run_comes N x (hits x (mask_in T h)) (fills N x (state_at T (start_in h))) (shared (mask_in T h) x.mates) k true (sym (head.coming k e)) (run_in T h)
        (run_alike N x (mask_in T h) (fills N x (state_at T (start_in h))) (hits x (mask_in T h)) (shared (mask_in T h) x.mates) refl refl (run_in T h) head.alike)

    -- ---- what is next has come

    -- the streams left then
    abbrev left : ℕ
    left = without (streams_in h) (stream_in h)

    left_few : left < 524288
    left_few = without_lt 19 (streams_in h) (stream_in h) (omega arith) head.next

    -- the head then
    abbrev then : ℕ
    then = next_head (mask_in T h) own h

    then_is : then ≡ head_of (mask_in T h) own (start_in h * 128 + length_in h) left
    unfolding next_head
    then_is = ap (λ (R : ℕ). head_of (mask_in T h) own R left) (omega arith)

    then_streams : streams_in then ≡ left
    then_streams = ap (λ (g : ℕ). streams_in g) then_is ∙ streams_is (start_in h) (length_in h) left (omega arith) (omega arith) left_few

    pub then_start : start_in then ≡ start_in h
    then_start = ap (λ (g : ℕ). start_in g) then_is ∙ start_is (start_in h) (length_in h) left (omega arith) (omega arith) left_few

    pub then_length : length_in then ≡ length_in h
    then_length = ap (λ (g : ℕ). length_in g) then_is ∙ length_is (start_in h) (length_in h) left (omega arith) (omega arith) left_few

    then_run : run_in T then ≡ run_in T h
    then_run = ap (λ (g : ℕ). run_in T g) then_is ∙ run_is (start_in h) (length_in h) left (omega arith) (omega arith) left_few

    pub next_less : streams_in then < streams_in h
    next_less = omega (arith, then_streams, less_left (streams_in h) (stream_in h) head.next)

    -- as long as it loses something, it goes on
    pub head_goes_on : stream_in h < 16 → Heads N x T then
    head_goes_on l =
        subst (λ (g : ℕ). Heads N x T g) (sym then_is)
        (made_heads (start_in h) (length_in h) left (omega arith) (omega arith) left_few head.some head.inside head.alike head.small not_none
        (λ k e. head.coming k (sub_without (streams_in h) (stream_in h) head.next k e)) (λ k m e. keeps))
      where
        keeps : bit left 16 ≡ true
        keeps = without_same (streams_in h) (stream_in h) 16 (λ e. absurd (omega arith)) ∙ head.kept (stream_in h) l head.next

        not_none : left ≢ 0
        not_none e = absurd (true≢false (sym keeps ∙ ap (λ (L : ℕ). bit L 16) e ∙ bit_zero 16))

    pub head_comes : (X : List State) → add (to_come N x T then) (add (map (part N x (stream_in h)) (run_in T h)) X) ≡ add (to_come N x T h) X
    head_comes X =
        ap (λ (R : List State). add (in_some N x R (streams_in then) 19) (add (map (part N x (stream_in h)) (run_in T h)) X)) then_run
        ∙ ap (λ (L : ℕ). add (in_some N x (run_in T h) L 19) (add (map (part N x (stream_in h)) (run_in T h)) X)) then_streams
        ∙ stream_first N x (run_in T h) (streams_in h) (stream_in h) 19 head.next next_below X

    -- where it loses nothing, nothing is to come any more
    pub head_done : 15 < stream_in h → (X : List State) → add (map (part N x (stream_in h)) (run_in T h)) X ≡ add (to_come N x T h) X
    head_done l X =
        sym (some_none N x (run_in T h) left 19 none (add (map (part N x (stream_in h)) (run_in T h)) X))
        ∙ stream_first N x (run_in T h) (streams_in h) (stream_in h) 19 head.next next_below X
      where
        other : (k : ℕ) → k < 19 → stream_in h ≢ k → (b : Bool) → bit (streams_in h) k ≡ b → b ≡ false
        other k m d false e = refl
        other k m d true e = go (dec_lt k 16)
          where
            go : Dec (k < 16) → true ≡ false
            go (yes q) = sym e ∙ none_lost (streams_in h) (omega (arith, next_is)) k q
            go (no q) = absurd (d (comes_one _ _ _ (stream_in h) k l (omega arith) next_below m (head.coming (stream_in h) head.next) (head.coming k e)))

        none : (k : ℕ) → k < 19 → bit left k ≡ false
        none k m = go (ℕ_discrete (stream_in h) k)
          where
            go : Dec (stream_in h ≡ k) → bit left k ≡ false
            go (yes s) = ap (bit left) (sym s) ∙ without_gone (streams_in h) (stream_in h) head.next
            go (no d) = without_same (streams_in h) (stream_in h) k d ∙ other k m d (bit (streams_in h) k) refl

  -- ---- before anything has come

  pub whole_comes : (h : ℕ) → Whole N x T h → (X : List State) → add (to_come N x T h) X ≡ add (in_all N x (run_in T h) 19) X
  whole_comes h (head, all) X =
      some_all N x (run_in T h) (streams_in h) 19
      (λ k l. run_comes N x (hits x (mask_in T h)) (fills N x (state_at T (start_in h))) (shared (mask_in T h) x.mates) k (bit (streams_in h) k) (all k l) (run_in T h)
      (run_alike N x (mask_in T h) (fills N x (state_at T (start_in h))) (hits x (mask_in T h)) (shared (mask_in T h) x.mates) refl refl (run_in T h) head.alike)) X

  -- a run of n states from place s on, of which all is to come
  module _ (s n : ℕ) (low : s < 64) (short : n < 128) where
    abbrev pub whole : ℕ
    whole = head_of (state_at T s).mask own (s * 128 + n) (streams_for (hits x (state_at T s).mask) (fills N x (state_at T s)) (shared (state_at T s).mask x.mates))

    pub made_whole : 1 ≤ n → s + n ≤ length T → Every (InRun N x (state_at T s).mask (fills N x (state_at T s))) (take n (drop s T)) → (state_at T s).mask < 2 ^ 16
        → Whole N x T whole × (run_in T whole ≡ take n (drop s T))
    made_whole some inside alike small = ((made_heads s n L low short few some inside alike small (streams_some H F E) so kept, all), run_is s n L low short few)
      where
        H : Bool
        H = hits x (state_at T s).mask

        F : Bool
        F = fills N x (state_at T s)

        E : ℕ
        E = shared (state_at T s).mask x.mates

        L : ℕ
        L = streams_for H F E

        few : L < 524288
        few = streams_few H F E

        fit : E < 2 ^ 16
        fit = shared_lt 16 (state_at T s).mask x.mates small

        so : (k : ℕ) → bit L k ≡ true → comes H F E k ≡ true
        so k e = sym (streams_come H F E k fit (bit_below 19 L k few e)) ∙ e

        kept : (k : ℕ) → k < 16 → bit L k ≡ true → bit L 16 ≡ true
        kept k l e = streams_come H F E 16 fit (omega arith) ∙ comes_kept H F E k l (so k e)

        all : (k : ℕ) → k < 19 → bit (streams_in whole) k ≡ comes_in N x T whole k
        all k l = ap (λ (M : ℕ). bit M k) (streams_is s n L low short few) ∙ streams_come H F E k fit l ∙ sym (comes_is s n L low short few k)
