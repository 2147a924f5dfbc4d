-- Heads in a row. One that is put in makes room from behind: those that are not less go up by one, until it stands behind one that is less, or first. One that goes on changes places with
-- each behind it that is less. In both cases it ends at some place among the others, and these stay in their order.
use mathlib.Core.Path.{◌≡◌, refl, sym, ap, ◌∙◌, subst}
use mathlib.Core.Bool.{Bool, true, false, cond, ◌&&◌}
use mathlib.Core.List.{List, [], ◌∷◌, ◌++◌, append_assoc}
use Prim.Native.Nat.{ℕ, zero, suc, ◌+◌, ◌-◌, ◌≤◌, ◌<◌}
use native.Mathlib.Decide.{dec_lt}
use native.Mathlib.Numerals.{add-one}
use native.Mathlib.Omega.{arith}
use lib.Dec.{ltb, leb}
use lib.ListN.{length, take, drop, get_or, set, length-set, length-drop, length-append, get_or-append, take-append-drop}
use lib.Seq.{length-take-le, take-suc, take-suc-set, take-take, drop-cons, drop-length, drop-set-lt, drop-append-le, append_snoc, set_at, set-set, set_split, take_at, drop_at, get_or-take, get_or-set_other}
use borrow.Author.Tests.{lt-ltb, le-ltb, le-leb, lt-leb}
use Rattle.heads.specs.Row.{behind_less, put_at, inserted, onward, ends, moved_on, Among}

-- ---- one is put in

-- the heads E have become `now`: those from place j on, of the first n, have gone up by one, and h belongs to place j or before it
pub record Making (n h : ℕ) (E now : List ℕ) (j : ℕ) : Type 0 where
  pub room : n < length E
  pub within : j ≤ n
  pub same : length now ≡ length E
  pub put : set now j h ≡ put_at j n h E
  pub place : behind_less h E n ≡ behind_less h E j

module _ (n h : ℕ) (E : List ℕ) where
  pub making_start : n < length E → Making n h E E n
  unfolding put_at
  making_start l = record {
    room = l;
    within = omega arith;
    same = refl;
    put = set_split E n h l ∙ ap (λ (r : List ℕ). take n E ++ h ∷ (r ++ drop (suc n) E)) (sym nothing);
    place = refl;
  }
    where
      nothing : drop n (take n E) ≡ []
      nothing = ap (λ (k : ℕ). drop k (take n E)) (sym (length-take-le n E (omega arith))) ∙ drop-length (take n E)

  pub no_room : length E ≤ n → E ≡ inserted n h E
  unfolding inserted
  no_room l = rw (le-ltb n (length E) l) refl

  -- h put at the place where it belongs
  placed : (p : ℕ) → n < length E → behind_less h E n ≡ p → put_at p n h E ≡ inserted n h E
  unfolding inserted
  placed p l e = rw (lt-ltb n (length E) l, e) refl

  module _ (now : List ℕ) where
    pub making_end : (j : ℕ) → Making n h E now j → j ≡ 0 → set now 0 h ≡ inserted n h E
    unfolding behind_less
    making_end zero m e = m.put ∙ placed 0 m.room m.place
    making_end (suc j) m e = absurd (omega arith)

    module _ (j : ℕ) (m : Making n h E now (suc j)) where
      -- the one before place j + 1 has not gone up
      there : get_or now j 0 ≡ get_or E j 0
      unfolding put_at
      there =
          sym (get_or-set_other now (suc j) j h 0 (λ e. absurd (omega arith)))
          ∙ ap (λ (r : List ℕ). get_or r j 0) m.put
          ∙ get_or-append (take (suc j) E) (h ∷ (drop (suc j) (take n E) ++ drop (suc n) E)) 0 j (omega (arith, length-take-le (suc j) E (omega (arith, m.within, m.room))))
          ∙ get_or-take (suc j) E j 0 (omega arith)

      stops : get_or now j 0 < h → set now (suc j) h ≡ inserted n h E
      unfolding behind_less
      stops l = m.put ∙ placed (suc j) m.room (m.place ∙ ap (λ (b : Bool). cond b (suc j) (behind_less h E j)) (ap (λ (g : ℕ). ltb g h) (sym there) ∙ lt-ltb (get_or now j 0) h l))

      abbrev o : ℕ
      o = get_or E j 0

      abbrev up : List ℕ
      up = drop (suc j) (take n E) ++ drop (suc n) E

      -- it goes up
      shifted : set now (suc j) o ≡ take j E ++ o ∷ (o ∷ up)
      unfolding put_at
      shifted =
          sym (set-set now (suc j) h o)
          ∙ ap (λ (r : List ℕ). set r (suc j) o) m.put
          ∙ set_at (take (suc j) E) h up o (suc j) (length-take-le (suc j) E (omega (arith, m.within, m.room)))
          ∙ ap (λ (r : List ℕ). r ++ o ∷ up) (take-suc E j 0 (omega (arith, m.within, m.room)))
          ∙ append_snoc (take j E) o (o ∷ up)

      from_there : drop j (take n E) ≡ o ∷ drop (suc j) (take n E)
      from_there =
          drop-cons (take n E) j 0 (omega (arith, m.within, length-take-le n E (omega (arith, m.room))))
          ∙ ap (λ (g : ℕ). g ∷ drop (suc j) (take n E)) (get_or-take n E j 0 (omega (arith, m.within)))

      down : (h ≤ get_or now j 0) → Making n h E (set now (suc j) (get_or now j 0)) j
      unfolding put_at behind_less
      down l = record {
        room = m.room;
        within = omega (arith, m.within);
        same = length-set now (suc j) (get_or now j 0) ∙ m.same;
        put =
            ap (λ (g : ℕ). set (set now (suc j) g) j h) there
            ∙ ap (λ (r : List ℕ). set r j h) shifted
            ∙ set_at (take j E) o (o ∷ up) h j (length-take-le j E (omega (arith, m.within, m.room)))
            ∙ ap (λ (r : List ℕ). take j E ++ h ∷ (r ++ drop (suc n) E)) (sym from_there);
        place = m.place ∙ ap (λ (b : Bool). cond b (suc j) (behind_less h E j)) (ap (λ (g : ℕ). ltb g h) (sym there) ∙ le-ltb (get_or now j 0) h l);
      }

    -- the same, of a place that is not the first
    pub making_stops : (j : ℕ) → 0 < j → Making n h E now j → get_or now (j - 1) 0 < h → set now j h ≡ inserted n h E
    making_stops zero l m = absurd (omega arith)
    making_stops (suc j) l m = let before : j ≡ suc j - 1 = omega arith in subst (λ (i : ℕ). get_or now i 0 < h → set now (suc j) h ≡ inserted n h E) before (stops j m)

    pub making_down : (j : ℕ) → 0 < j → Making n h E now j → h ≤ get_or now (j - 1) 0 → Making n h E (set now j (get_or now (j - 1) 0)) (j - 1)
    making_down zero l m = absurd (omega arith)
    making_down (suc j) l m = let before : j ≡ suc j - 1 = omega arith in subst (λ (i : ℕ). h ≤ get_or now i 0 → Making n h E (set now (suc j) (get_or now i 0)) i) before (down j m)

-- ---- one goes on

-- the heads E have become `now`: what was at place i has come to place j, and `other` is behind it
pub record Going (i h : ℕ) (E now : List ℕ) (j other : ℕ) : Type 0 where
  pub within : i < length E - 1
  pub ending : h ≤ get_or E (length E - 1) 0
  pub same : length now ≡ length E
  pub below : j < length now - 1
  pub last : h ≤ get_or now (length now - 1) 0
  pub behind : other ≡ get_or now (suc j) 0
  pub goes : take j now ++ onward h (drop (suc j) now) ≡ take i E ++ onward h (drop (suc i) E)

module _ (i h : ℕ) (E : List ℕ) where
  pub going_start : i < length E - 1 → h ≤ get_or E (length E - 1) 0 → Going i h E E i (get_or E (i + 1) 0)
  going_start l k = record { within = l; ending = k; same = refl; below = l; last = k; behind = ap (λ (m : ℕ). get_or E m 0) (omega arith); goes = refl }

  stays : ends i h E ≡ false → E ≡ moved_on i h E
  unfolding moved_on
  stays e = rw e refl

  pub stays_outside : length E - 1 ≤ i → E ≡ moved_on i h E
  stays_outside l = stays (ap (◌&& leb h (get_or E (length E - 1) 0)) (le-ltb i (length E - 1) l))

  pub stays_open : i < length E - 1 → get_or E (length E - 1) 0 < h → E ≡ moved_on i h E
  stays_open l k = stays (ap (◌&& leb h (get_or E (length E - 1) 0)) (lt-ltb i (length E - 1) l) ∙ lt-leb h (get_or E (length E - 1) 0) k)

  moves : i < length E - 1 → h ≤ get_or E (length E - 1) 0 → take i E ++ onward h (drop (suc i) E) ≡ moved_on i h E
  unfolding moved_on
  moves l k = rw (lt-ltb i (length E - 1) l, le-leb h (get_or E (length E - 1) 0) k) refl

  module _ (now : List ℕ) (j other : ℕ) (g : Going i h E now j other) where
    rest : drop (suc j) now ≡ other ∷ drop (suc (suc j)) now
    rest = drop-cons now (suc j) 0 (omega (arith, g.below)) ∙ ap (λ (a : ℕ). a ∷ drop (suc (suc j)) now) (sym g.behind)

    pub going_end : h ≤ other → set now j h ≡ moved_on i h E
    unfolding onward
    going_end l =
        set_split now j h (omega (arith, g.below))
        ∙ ap (λ (r : List ℕ). take j now ++ h ∷ r) rest
        ∙ ap (λ (b : Bool). take j now ++ cond b (other ∷ onward h (drop (suc (suc j)) now)) (h ∷ other ∷ drop (suc (suc j)) now)) (sym (le-ltb other h l))
        ∙ ap (λ (r : List ℕ). take j now ++ onward h r) (sym rest)
        ∙ g.goes ∙ moves g.within g.ending

    -- what is less is not the last
    pub further : other < h → suc j < length now - 1
    further l = go (dec_lt (suc j) (length now - 1))
      where
        go : Dec (suc j < length now - 1) → suc j < length now - 1
        go (yes m) = m
        go (no m) = let at_end : length now - 1 ≡ suc j = omega (arith, g.below) in absurd (omega (arith, g.last, g.behind, ap (λ (k : ℕ). get_or now k 0) at_end, l))

    pub going_next : other < h → Going i h E (set now j other) (j + 1) (get_or (set now j other) (j + 1 + 1) 0)
    unfolding onward
    going_next l = record {
      within = g.within;
      ending = g.ending;
      same = length-set now j other ∙ g.same;
      below = omega (arith, length-set now j other, further l);
      last = subst (λ (k : ℕ). h ≤ k) (sym (ap (λ (k : ℕ). get_or (set now j other) (k - 1) 0) (length-set now j other) ∙ get_or-set_other now j (length now - 1) other 0 (λ e. absurd (omega (arith, g.below))))) g.last;
      behind = ap (λ (k : ℕ). get_or (set now j other) k 0) (omega arith);
      goes =
          ap (λ (k : ℕ). take k (set now j other) ++ onward h (drop (suc k) (set now j other))) (add-one j)
          ∙ ap (λ (r : List ℕ). r ++ onward h (drop (suc (suc j)) (set now j other))) (take-suc-set now j other (omega (arith, g.below)))
          ∙ ap (λ (r : List ℕ). take j now ++ (other ∷ []) ++ onward h r) (drop-set-lt (suc (suc j)) now j other (omega arith))
          ∙ append_snoc (take j now) other (onward h (drop (suc (suc j)) now))
          ∙ ap (λ (b : Bool). take j now ++ cond b (other ∷ onward h (drop (suc (suc j)) now)) (h ∷ other ∷ drop (suc (suc j)) now)) (sym (lt-ltb other h l))
          ∙ ap (λ (r : List ℕ). take j now ++ onward h r) (sym rest)
          ∙ g.goes;
    }

-- ---- one among the others

behind_within : (h : ℕ) (E : List ℕ) (n : ℕ) → behind_less h E n ≤ n
unfolding behind_less
behind_within h E zero = omega arith
behind_within h E (suc n) = go (ltb (get_or E n 0) h) (behind_within h E n)
  where
    go : (b : Bool) → behind_less h E n ≤ n → cond b (suc n) (behind_less h E n) ≤ suc n
    go true l = omega arith
    go false l = omega arith

-- the first n of E with h among them, and what is behind them as it was
pub record Joined (n h : ℕ) (E X : List ℕ) : Type 0 where
  pub among : Among h (take n E) (take (suc n) X)
  pub beyond : drop (suc n) X ≡ drop (suc n) E
  pub same : length X ≡ length E

pub joined : (n h : ℕ) (E X : List ℕ) → n < length E → X ≡ inserted n h E → Joined n h E X
unfolding inserted put_at
joined n h E X l e = record {
  among = record { before = A; behind = B; without = sym (ap (◌++ B) (sym (take-take p n E (behind_within h E n))) ∙ take-append-drop p (take n E)); with = ap (take (suc n)) whole ∙ take_at (A ++ h ∷ B) D (suc n) many };
  beyond = ap (drop (suc n)) whole ∙ drop_at (A ++ h ∷ B) D (suc n) many;
  same = ap length whole ∙ length-append (A ++ h ∷ B) D ∙ omega (arith, many, length-drop (suc n) E);
}
  where
    p : ℕ
    p = behind_less h E n

    A : List ℕ
    A = take p E

    B : List ℕ
    B = drop p (take n E)

    D : List ℕ
    D = drop (suc n) E

    whole : X ≡ (A ++ h ∷ B) ++ D
    whole = e ∙ ap (λ (b : Bool). cond b (A ++ h ∷ (B ++ D)) E) (lt-ltb n (length E) l) ∙ sym (append_assoc A (h ∷ B) D)

    many : length (A ++ h ∷ B) ≡ suc n
    many = length-append A (h ∷ B) ∙ omega (arith, length-take-le p E (omega (arith, behind_within h E n)), length-drop p (take n E), length-take-le n E (omega arith), behind_within h E n)

-- before one that is not less it stands at the latest
onward_among : (h d : ℕ) (G D : List ℕ) → h ≤ d → (M : List ℕ) × Among h G M × (onward h (G ++ d ∷ D) ≡ M ++ d ∷ D)
unfolding onward
onward_among h d [] D l = (h ∷ [], record { before = []; behind = []; without = refl; with = refl }, ap (λ (b : Bool). cond b (d ∷ onward h D) (h ∷ d ∷ D)) (le-ltb d h l))
onward_among h d (g ∷ G) D l = go (ltb g h) (onward_among h d G D l)
  where
    go : (b : Bool) → (M : List ℕ) × Among h G M × (onward h (G ++ d ∷ D) ≡ M ++ d ∷ D)
        → (M : List ℕ) × Among h (g ∷ G) M × (cond b (g ∷ onward h (G ++ d ∷ D)) (h ∷ g ∷ (G ++ d ∷ D)) ≡ M ++ d ∷ D)
    go true (M, a, e) = (g ∷ M, record { before = g ∷ a.before; behind = a.behind; without = ap (g ∷◌) a.without; with = ap (g ∷◌) a.with }, ap (g ∷◌) e)
    go false (M, a, e) = (h ∷ g ∷ G, record { before = []; behind = g ∷ G; without = refl; with = refl }, refl)

among_length : (h : ℕ) (G M : List ℕ) → Among h G M → length M ≡ suc (length G)
among_length h G M a =
    ap length a.with ∙ length-append a.before (h ∷ a.behind) ∙ omega (arith, sym (ap length a.without ∙ length-append a.before a.behind))

-- of the first n of E, those behind place i with h among them, from place i on; the others as they were
pub record Moved (i n h : ℕ) (E X : List ℕ) : Type 0 where
  pub among : Among h (drop (suc i) (take n E)) (drop i (take n X))
  pub front : take i X ≡ take i E
  pub beyond : drop n X ≡ drop n E
  pub same : length X ≡ length E

pub moved : (i n h : ℕ) (E X : List ℕ) → i < n → n < length E → h ≤ get_or E n 0 → h ≤ get_or E (length E - 1) 0 → X ≡ moved_on i h E → Moved i n h E X
moved i n h E X l m k last e = go (onward_among h (get_or E n 0) G (drop (suc n) E) k)
  where
    G : List ℕ
    G = drop (suc i) (take n E)

    D : List ℕ
    D = drop n E

    behind : drop (suc i) E ≡ G ++ get_or E n 0 ∷ drop (suc n) E
    behind =
        ap (drop (suc i)) (sym (take-append-drop n E))
        ∙ drop-append-le (suc i) (take n E) D (omega (arith, length-take-le n E (omega arith)))
        ∙ ap (G ++◌) (drop-cons E n 0 m)

    go : (M : List ℕ) × Among h G M × (onward h (G ++ get_or E n 0 ∷ drop (suc n) E) ≡ M ++ get_or E n 0 ∷ drop (suc n) E) → Moved i n h E X
    go (M, a, f) = record {
      among = record { before = a.before; behind = a.behind; without = a.without; with = ap (drop i) (ap (take n) whole ∙ take_at (take i E ++ M) D n many) ∙ drop_at (take i E) M i few ∙ a.with };
      front = ap (take i) (whole ∙ append_assoc (take i E) M D) ∙ take_at (take i E) (M ++ D) i few;
      beyond = ap (drop n) whole ∙ drop_at (take i E ++ M) D n many;
      same = ap length whole ∙ length-append (take i E ++ M) D ∙ omega (arith, many, length-drop n E);
    }
      where
        few : length (take i E) ≡ i
        few = length-take-le i E (omega arith)

        many : length (take i E ++ M) ≡ n
        many = length-append (take i E) M ∙ omega (arith, few, among_length h G M a, length-drop (suc i) (take n E), length-take-le n E (omega arith))

        whole : X ≡ (take i E ++ M) ++ D
        whole =
            e ∙ sym (moves i h E (omega arith) last)
            ∙ ap (λ (r : List ℕ). take i E ++ onward h r) behind
            ∙ ap (take i E ++◌) (f ∙ ap (M ++◌) (sym (drop-cons E n 0 m)))
            ∙ sym (append_assoc (take i E) M D)
