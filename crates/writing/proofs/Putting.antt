-- Text put into lent room. A piece behind another is their text in one, whether they fit or not, so that nothing has to be shown of room between them; and a text that fits
-- is whole, at the front of the room. Then bytes, and the numbers of a line, put one by one.
use mathlib.Core.Path.{◌≡◌, refl, sym, ap, subst, ◌∙◌}
use mathlib.Core.Bool.{Bool}
use mathlib.Core.List.{List, [], ◌∷◌, ◌++◌, append_assoc}
use Prim.Native.Nat.{ℕ, suc, ◌+◌, ◌*◌, ◌≤◌, ◌<◌}
use native.Mathlib.Nat.{add-zero, zero-add}
use native.Mathlib.Omega.{arith}
use borrow.Author.Tests.{lt-ltb, le-ltb, eqb-true, eq-eqb}
use lib.Dec.{eqb}
use lib.ListN.{length, get_or, set, drop, length-set, length-append, length-drop}
use lib.Seq.{sets, sets-eq}
use Rattle.basics.proofs.Bools.{same_test}
use Rattle.basics.proofs.Lists.{list_next, list_end}
use Rattle.writing.specs.Put.{Page, with_byte, with_bytes, Put}
use Rattle.writing.specs.Writing.{decimal, gap, numbers_line}
use Rattle.writing.proofs.Decimals.{decimal_long}

-- ---- one piece behind the other

pub bytes_append : (bs cs : List ℕ) (p : Page) → with_bytes (bs ++ cs) p ≡ with_bytes cs (with_bytes bs p)
unfolding with_bytes
bytes_append [] cs p = refl
bytes_append (b ∷ bs) cs p = bytes_append bs cs (with_byte b p)

-- nothing
pub put_none : (at : ℕ) (o : List ℕ) → Put [] at at o o
unfolding with_bytes
put_none at o = refl

-- the same bytes
pub put_is : (bs cs : List ℕ) (at r : ℕ) (o o₁ : List ℕ) → Put bs at r o o₁ → bs ≡ cs → Put cs at r o o₁
put_is bs cs at r o o₁ done e = subst (λ (t : List ℕ). Put t at r o o₁) e done

module _ (bs : List ℕ) (at r : ℕ) (o o₁ : List ℕ) (done : Put bs at r o o₁) where
  -- another piece behind it
  pub put_then : (cs : List ℕ) (e : ℕ) (o₂ : List ℕ) → Put cs r e o₁ o₂ → Put (bs ++ cs) at e o o₂
  put_then cs e o₂ next = next ∙ ap (with_bytes cs) done ∙ sym (bytes_append bs cs (record { end = at; room = o }))

  -- a piece of two parts behind it
  pub put_both_then : (cs ds : List ℕ) (e : ℕ) (o₂ : List ℕ) → Put (cs ++ ds) r e o₁ o₂ → Put (bs ++ cs ++ ds) at e o o₂
  put_both_then cs ds e o₂ next = put_is _ _ at e o o₂ (put_then (cs ++ ds) e o₂ next) (sym (append_assoc bs cs ds))

-- ---- what fits

bytes_fit : (bs : List ℕ) (at : ℕ) (o : List ℕ) → at + length bs ≤ length o
    → with_bytes bs (record { end = at; room = o }) ≡ record { end = at + length bs; room = sets o at bs }
unfolding with_bytes
bytes_fit [] at o fits = ap (λ (k : ℕ). record { end = k; room = o }) (sym (add-zero at))
bytes_fit (b ∷ bs) at o fits =
    let next : suc at + length bs ≡ at + length (b ∷ bs) = omega arith in
    rw (lt-ltb at (length o) (omega (arith, fits)))
    (bytes_fit bs (suc at) (set o at b) (omega (arith, fits, length-set o at b)) ∙ ap (λ (k : ℕ). record { end = k; room = sets (set o at b) (suc at) bs }) next)

-- a text that fits is whole, and stands at the front
pub put_whole : (bs : List ℕ) (r : ℕ) (o o₁ : List ℕ) → Put bs 0 r o o₁ → length bs ≤ length o
    → ◌≡◌ {A = Page} (record { end = r; room = o₁ }) (record { end = length bs; room = bs ++ drop (length bs) o })
put_whole bs r o o₁ done fits =
    let all : 0 + length bs ≡ length bs = zero-add (length bs) in
    done
    ∙ bytes_fit bs 0 o (omega (arith, fits))
    ∙ ap (λ (t : List ℕ). record { end = 0 + length bs; room = t }) (sets-eq bs o 0 (omega (arith, fits)))
    ∙ ap (λ (k : ℕ). record { end = k; room = bs ++ drop k o }) all

-- ---- text put piece by piece: what is left to be put, `rest`, from e on, makes it whole

abbrev pub Leaves : List ℕ → ℕ → List ℕ → List ℕ → ℕ → List ℕ → Type 0
Leaves rest e o₁ whole at o = with_bytes rest (record { end = e; room = o₁ }) ≡ with_bytes whole (record { end = at; room = o })

-- the next piece is put
pub leaves_less : (piece rest whole : List ℕ) (e at e₂ : ℕ) (o o₁ o₂ : List ℕ) → Leaves (piece ++ rest) e o₁ whole at o → Put piece e e₂ o₁ o₂
    → Leaves rest e₂ o₂ whole at o
leaves_less piece rest whole e at e₂ o o₁ o₂ left next =
    ap (with_bytes rest) next ∙ sym (bytes_append piece rest (record { end = e; room = o₁ })) ∙ left

-- nothing is left
pub leaves_none : (whole : List ℕ) (e at : ℕ) (o o₁ : List ℕ) → Leaves [] e o₁ whole at o → Put whole at e o o₁
unfolding with_bytes
leaves_none whole e at o o₁ left = left

-- ---- bytes

-- one that there is no room for is left out, and the text ends where it ended
pub byte_left_out : (b at : ℕ) (o : List ℕ) → length o ≤ at → Put (b ∷ []) at at o o
unfolding with_bytes
byte_left_out b at o l = rw (le-ltb at (length o) l)

-- one by one: those from place i on are left
module _ (bs : List ℕ) (i e at : ℕ) (o o₁ : List ℕ) (left : Leaves (drop i bs) e o₁ bs at o) where
  pub bytes_less : i < length bs → (e₂ : ℕ) (o₂ : List ℕ) → Put (get_or bs i 0 ∷ []) e e₂ o₁ o₂ → Leaves (drop (i + 1) bs) e₂ o₂ bs at o
  bytes_less more e₂ o₂ next = leaves_less _ _ _ e at e₂ o o₁ o₂ (list_next (λ cs. with_bytes cs (record { end = e; room = o₁ })) bs i _ left 0 more) next

  pub bytes_all : length bs ≤ i → Put bs at e o o₁
  bytes_all none = leaves_none _ _ _ _ _ (list_end (λ cs. with_bytes cs (record { end = e; room = o₁ })) bs i _ left none)

-- ---- numbers on a line

-- the next number is the last where none is behind it
last_is : (xs : List ℕ) (i : ℕ) → i < length xs → eqb (i + 1) (length xs) ≡ eqb (length (drop (i + 1) xs)) 0
last_is xs i more =
    let left = length-drop (i + 1) xs in
    same_test (eqb (i + 1) (length xs)) (eqb (length (drop (i + 1) xs)) 0)
    (λ e. let all = eqb-true (i + 1) (length xs) e in eq-eqb (length (drop (i + 1) xs)) 0 (omega (arith, left, all)))
    (λ e. let none = eqb-true (length (drop (i + 1) xs)) 0 e in eq-eqb (i + 1) (length xs) (omega (arith, left, none)))

-- those from place i on are left
module _ (xs : List ℕ) (i e at : ℕ) (o o₁ : List ℕ) (left : Leaves (numbers_line (drop i xs)) e o₁ (numbers_line xs) at o) where
  pub numbers_less : i < length xs → (e₂ : ℕ) (o₂ : List ℕ) → Put (decimal (get_or xs i 0) ++ (gap (eqb (i + 1) (length xs)) ∷ [])) e e₂ o₁ o₂
      → Leaves (numbers_line (drop (i + 1) xs)) e₂ o₂ (numbers_line xs) at o
  unfolding numbers_line
  numbers_less more e₂ o₂ next =
      leaves_less _ _ _ e at e₂ o o₁ o₂ (list_next (λ ys. with_bytes (numbers_line ys) (record { end = e; room = o₁ })) xs i _ left 0 more)
      (put_is _ _ _ _ _ _ next (ap (λ (last : Bool). decimal (get_or xs i 0) ++ (gap last ∷ [])) (last_is xs i more)))

  pub numbers_all : length xs ≤ i → Put (numbers_line xs) at e o o₁
  unfolding numbers_line
  numbers_all none = leaves_none _ _ _ _ _ (list_end (λ ys. with_bytes (numbers_line ys) (record { end = e; room = o₁ })) xs i _ left none)

-- ---- how long they are

pub entry_long : (x : ℕ) (last : Bool) → length (decimal x ++ (gap last ∷ [])) ≤ 21
entry_long x last = omega (arith, length-append (decimal x) (gap last ∷ []), decimal_long x)

pub line_long : (xs : List ℕ) → length (numbers_line xs) ≤ length xs * 21
unfolding numbers_line
line_long [] = omega arith
line_long (x ∷ xs) =
    let last = eqb (length xs) 0 in
    omega (arith, length-append (decimal x ++ (gap last ∷ [])) (numbers_line xs), entry_long x last, line_long xs)
