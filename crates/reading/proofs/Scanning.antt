-- The words of a text, read byte by byte. A word under way that begins no number stays wrong, whatever follows. From where reading stands with a
-- word under way that begins one, the rest of a text is read as its words say; with nothing done and nothing under way, the rest is the whole text.
use mathlib.Core.Path.{◌≡◌, refl, sym, ap, ◌∙◌}
use mathlib.Core.Logic.{◌≢◌, ⊎_elim}
use mathlib.Core.Bool.{Bool, true, false, ◌&&◌, true≢false, and-true}
use mathlib.Core.List.{List, [], ◌∷◌, ◌++◌, map}
use Prim.Native.Nat.{ℕ, suc, ◌+◌, ◌-◌, ◌*◌, ◌≤◌, ◌<◌}
use native.Mathlib.Nat.{zero-add, add-zero, suc-ne-zero}
use native.Mathlib.Numerals.{add-one}
use native.Mathlib.Omega.{arith}
use borrow.Author.Tests.{le-leb, lt-leb, leb-true, ltb-true, ltb-false}
use lib.Dec.{leb, ltb}
use lib.ListN.{length, get_or, take, drop, set, length-append, length-set, length-map, take-append-drop}
use lib.Seq.{append_snoc, take-suc-set, drop-set-lt}
use Rattle.std.specs.Prelude.{Option, Some, None, is_some, option_map}
use Rattle.std.proofs.lemmas.Option.{none-some, same_Some}
use Rattle.basics.proofs.Bools.{and_left, three, not_both, either}
use Rattle.basics.proofs.Lists.{list_next, list_end}
use Rattle.reading.specs.declared.Progress.{Progress}
use Rattle.reading.specs.Reading.{is_gap, is_digit, all_digits, value_from, is_number, ended, words_from, all_numbers, well_formed, numbers_in}
use Rattle.reading.specs.Found.{Found}
use Rattle.reading.specs.Standing.{Standing, standing, going, lost, digit_added, number_ended, byte_taken, text_taken}
use Rattle.reading.proofs.Appended.{digits_append, value_append}
use Rattle.reading.proofs.Steps.{lost_ended, lost_taken, no_number, no_place, stored, by_gap, by_other}

-- ---- a word under way, and a byte more of it

-- w may begin a number: ten bytes at most, all digits, and not too large
abbrev begins : List ℕ → Bool
begins w = leb (length w) 10 && all_digits w && leb (value_from 0 w) 4294967295

-- a word with a byte is a number where it begins one
number_begins : (b : ℕ) (w : List ℕ) → is_number (b ∷ w) ≡ begins (b ∷ w)
unfolding is_number
number_begins b w = rw (le-leb 1 (suc (length w)) (omega arith))

-- n numbers are done, and w is under way
abbrev under : ℕ → List ℕ → Progress
under n w = record { count = n; digits = length w; value = value_from 0 w }

module _ (b : ℕ) where
  length_more : (w : List ℕ) → length (w ++ (b ∷ [])) ≡ length w + 1
  length_more w = omega (arith, length-append w (b ∷ []))

  digits_more : (w : List ℕ) → all_digits (w ++ (b ∷ [])) ≡ (all_digits w && is_digit b)
  digits_more w = digits_append w (b ∷ []) ∙ ap (λ (t : Bool). all_digits w && t) (and-true (is_digit b))

  value_more : (n : ℕ) (w : List ℕ) → value_from n (w ++ (b ∷ [])) ≡ value_from n w * 10 + (b - 48)
  value_more n w = value_append n w (b ∷ [])

  module _ (w : List ℕ) where
    begins_more : begins (w ++ (b ∷ [])) ≡ (ltb (length w) 10 && (all_digits w && is_digit b) && leb (value_from 0 w * 10 + (b - 48)) 4294967295)
    begins_more = rw (length_more w, add-one (length w), digits_more w, value_more 0 w)

    -- what begins no number begins none with a byte more
    begins_less : begins (w ++ (b ∷ [])) ≡ true → begins w ≡ true
    begins_less h =
        let t = three (ltb (length w) 10) (all_digits w && is_digit b) (leb (value_from 0 w * 10 + (b - 48)) 4294967295) (sym begins_more ∙ h) in
        rw (le-leb (length w) 10 (omega (arith, ltb-true (length w) 10 t.0)), and_left (all_digits w) (is_digit b) t.1)
        (le-leb (value_from 0 w) 4294967295 (omega (arith, leb-true (value_from 0 w * 10 + (b - 48)) 4294967295 t.2)))

    module _ (h : begins w ≡ true) where
      -- the tests of the byte say whether w begins a number with it
      tests_byte : begins (w ++ (b ∷ [])) ≡ (ltb (length w) 10 && is_digit b && leb (value_from 0 w * 10 + (b - 48)) 4294967295)
      tests_byte = begins_more ∙ rw (three (leb (length w) 10) (all_digits w) (leb (value_from 0 w) 4294967295) h).1

      byte_right : (n : ℕ) → begins (w ++ (b ∷ [])) ≡ true → digit_added b (under n w) ≡ Some (under n (w ++ (b ∷ [])))
      unfolding digit_added
      byte_right n l = rw (sym tests_byte ∙ l, length_more w, value_more 0 w)

      byte_wrong : (n : ℕ) → begins (w ++ (b ∷ [])) ≡ false → digit_added b (under n w) ≡ lost
      unfolding digit_added
      byte_wrong n l = rw (sym tests_byte ∙ l)

-- ---- the words of a text

module _ (b : ℕ) (w text : List ℕ) where
  words_gap : is_gap b ≡ true → words_from w (b ∷ text) ≡ ended w (words_from [] text)
  unfolding words_from
  words_gap h = rw h

  words_other : is_gap b ≡ false → words_from w (b ∷ text) ≡ words_from (w ++ (b ∷ [])) text
  unfolding words_from
  words_other h = rw h

-- where the words are numbers, the word under way begins one: when it is done, and before the rest of a text
first_begins : (w : List ℕ) (ws : List (List ℕ)) → all_numbers (ended w ws) ≡ true → begins w ≡ true
first_begins [] ws h = refl
first_begins (b ∷ w) ws h = sym (number_begins b w) ∙ and_left (is_number (b ∷ w)) (all_numbers ws) h

under_begins : (text w : List ℕ) → all_numbers (words_from w text) ≡ true → begins w ≡ true
unfolding words_from
under_begins [] w h = first_begins w [] h
under_begins (b ∷ text) w h =
    ⊎_elim
    (λ gap. first_begins w (words_from [] text) (rw (words_gap b w text gap) at h))
    (λ other. begins_less b w (under_begins text (w ++ (b ∷ [])) (rw (words_other b w text other) at h)))
    (either (is_gap b))

-- ---- what is read

-- s is where reading stands when the words ws are read behind the n numbers at the front of the room
record Reads (ws : List (List ℕ)) (n : ℕ) (room : List ℕ) (s : Standing) : Type 0 where
  good : is_some s.progress ≡ (all_numbers ws && leb (n + length ws) 16384)
  count : (p : Progress) → s.progress ≡ Some p → p.count ≡ n + length ws
  numbers : (p : Progress) → s.progress ≡ Some p → s.room ≡ take n room ++ (map (value_from 0) ws ++ drop (n + length ws) room)

-- the words are no numbers, or too many
reads_lost : (ws : List (List ℕ)) (n : ℕ) (room : List ℕ) → (all_numbers ws ≡ true → n + length ws ≤ 16384 → ⊥) → Reads ws n room (standing lost room)
reads_lost ws n room h =
    record {
      good = sym (not_both (all_numbers ws) (leb (n + length ws) 16384) (λ a l. h a (leb-true (n + length ws) 16384 l)));
      count = λ p e. absurd (none-some p e);
      numbers = λ p e. absurd (none-some p e);
    }

-- the number w is stored, and the words behind it are read
reads_more : (w : List ℕ) (ws : List (List ℕ)) (n : ℕ) (room : List ℕ) (s : Standing) → is_number w ≡ true → n < length room
    → Reads ws (n + 1) (set room n (value_from 0 w)) s → Reads (w ∷ ws) n room s
reads_more w ws n room s h l r =
    let same : n + suc (length ws) ≡ n + 1 + length ws = omega arith in
    let front : take (n + 1) (set room n (value_from 0 w)) ≡ take n room ++ (value_from 0 w ∷ []) = ap (λ (k : ℕ). take k (set room n (value_from 0 w))) (add-one n) ∙ take-suc-set room n (value_from 0 w) l in
    record {
      good = r.good ∙ rw (h, same);
      count = λ p e. r.count p e ∙ sym same;
      numbers = λ p e. r.numbers p e ∙ rw (front, same, drop-set-lt (n + 1 + length ws) room n (value_from 0 w) (omega arith))
          (append_snoc (take n room) (value_from 0 w) (map (value_from 0) ws ++ drop (n + 1 + length ws) room));
    }

-- k reads the words ws where w is under way, whatever numbers are done
abbrev ReadsFrom : List ℕ → (Standing → Standing) → List (List ℕ) → Type 0
ReadsFrom w k ws = (n : ℕ) (room : List ℕ) → n ≤ 16384 → 16384 ≤ length room → Reads ws n room (k (standing (Some (under n w)) room))

reads_none : ReadsFrom [] (λ s. s) []
reads_none n room few long =
    record {
      good = sym (le-leb (n + 0) 16384 (omega arith));
      count = λ p e. sym (ap (λ (q : Progress). q.count) (same_Some (under n []) p e)) ∙ sym (add-zero n);
      numbers = λ p e. rw (add-zero n) (sym (take-append-drop n room));
    }

-- the word under way is done, and k reads those behind it
module _ (k : Standing → Standing) (ws : List (List ℕ)) (stays : (room : List ℕ) → k (standing lost room) ≡ standing lost room) (rest : ReadsFrom [] k ws) where
  reads_word : (b : ℕ) (w : List ℕ) → begins (b ∷ w) ≡ true → ReadsFrom (b ∷ w) (λ s. k (number_ended s)) ((b ∷ w) ∷ ws)
  reads_word b w h n room few long = ⊎_elim place full (either (ltb n 16384))
    where
      some : suc (length w) ≢ 0
      some = suc-ne-zero (length w)

      place : ltb n 16384 ≡ true → Reads ((b ∷ w) ∷ ws) n room (k (number_ended (standing (Some (under n (b ∷ w))) room)))
      place t =
          let l = ltb-true n 16384 t in
          rw (stored (under n (b ∷ w)) room some l)
          (reads_more (b ∷ w) ws n room _ (number_begins b w ∙ h) (omega arith) (rest (n + 1) (set room n (value_from 0 (b ∷ w))) (omega arith) (rw length-set long)))

      full : ltb n 16384 ≡ false → Reads ((b ∷ w) ∷ ws) n room (k (number_ended (standing (Some (under n (b ∷ w))) room)))
      full t =
          let l = ltb-false n 16384 t in
          rw (no_place (under n (b ∷ w)) room some l, stays room) (reads_lost ((b ∷ w) ∷ ws) n room (λ a g. omega arith))

  reads_ended : (w : List ℕ) → begins w ≡ true → ReadsFrom w (λ s. k (number_ended s)) (ended w ws)
  reads_ended [] h n room few long = rw (no_number (under n []) room refl) (rest n room few long)
  reads_ended (b ∷ w) h n room few long = reads_word b w h n room few long

lost_stays : (text room : List ℕ) → text_taken text (standing lost room) ≡ standing lost room
unfolding text_taken
lost_stays [] room = lost_ended room
lost_stays (b ∷ text) room = rw (lost_taken room b) (lost_stays text room)

-- the next byte is a gap, or another one, which makes the word under way right or wrong
module _ (b : ℕ) (w text : List ℕ) (h : begins w ≡ true) where
  reads_gap : is_gap b ≡ true → ReadsFrom [] (text_taken text) (words_from [] text) → ReadsFrom w (text_taken (b ∷ text)) (words_from w (b ∷ text))
  unfolding text_taken
  reads_gap gap rest n room few long =
      rw (words_gap b w text gap, by_gap (under n w) room b gap) (reads_ended (text_taken text) (words_from [] text) (lost_stays text) rest w h n room few long)

  module _ (other : is_gap b ≡ false) where
    reads_right : begins (w ++ (b ∷ [])) ≡ true → ReadsFrom (w ++ (b ∷ [])) (text_taken text) (words_from (w ++ (b ∷ [])) text)
        → ReadsFrom w (text_taken (b ∷ text)) (words_from w (b ∷ text))
    unfolding text_taken
    reads_right right rest n room few long =
        rw (words_other b w text other, by_other (under n w) room b other, byte_right b w h n right) (rest n room few long)

    reads_wrong : begins (w ++ (b ∷ [])) ≡ false → ReadsFrom w (text_taken (b ∷ text)) (words_from w (b ∷ text))
    unfolding text_taken
    reads_wrong wrong n room few long =
        rw (words_other b w text other, by_other (under n w) room b other, byte_wrong b w h n wrong, lost_stays text room)
        (reads_lost (words_from (w ++ (b ∷ [])) text) n room (λ a l. true≢false (sym (under_begins text (w ++ (b ∷ [])) a) ∙ wrong)))

    reads_other : (begins (w ++ (b ∷ [])) ≡ true → ReadsFrom (w ++ (b ∷ [])) (text_taken text) (words_from (w ++ (b ∷ [])) text))
        → ReadsFrom w (text_taken (b ∷ text)) (words_from w (b ∷ text))
    reads_other rest = ⊎_elim (λ right. reads_right right (rest right)) reads_wrong (either (begins (w ++ (b ∷ []))))

-- a text is read as its words say
reads_text : (text w : List ℕ) → begins w ≡ true → ReadsFrom w (text_taken text) (words_from w text)
unfolding words_from text_taken
reads_text [] w h = reads_ended (λ s. s) [] (λ room. refl) reads_none w h
reads_text (b ∷ text) w h =
    ⊎_elim
    (λ gap. reads_gap b w text h gap (reads_text text [] refl))
    (λ other. reads_other b w text h other (reads_text text (w ++ (b ∷ []))))
    (either (is_gap b))

-- ---- through the text

-- reading stands at s, with the bytes from place i on left, which come to what the whole text comes to
abbrev pub Left : List ℕ → ℕ → Standing → List ℕ → Type 0
Left text i s room = text_taken (drop i text) s ≡ text_taken text (standing (going 0 0 0) room)

module _ (text room : List ℕ) where
  -- the next byte is taken
  pub byte_next : (i : ℕ) (s t : Standing) → Left text i s room → i < length text → t ≡ byte_taken (get_or text i 0) s → Left text (i + 1) t room
  unfolding text_taken
  byte_next i s t rest h e = rw e (list_next (λ bs. text_taken bs s) text i _ rest 0 h)

  -- a text that is too long is not well formed
  pub too_long : 65536 < length text → Found text room None room
  unfolding well_formed
  too_long h = record { good = rw (lt-leb (length text) 65536 h); count = λ n e. absurd (none-some n e); numbers = λ n e. absurd (none-some n e) }

  module _ (long : 16384 ≤ length room) (short : length text ≤ 65536) where
    abbrev words : List (List ℕ)
    words = words_from [] text

    -- where the whole text comes to t, its words are read
    reads : (t : Standing) → t ≡ text_taken text (standing (going 0 0 0) room) → Reads words 0 room t
    reads t e = rw e (reads_text text [] refl 0 room (omega arith) long)

    as_words : (leb (length text) 65536 && all_numbers words && leb (length words) 16384) ≡ (all_numbers words && leb (0 + length words) 16384)
    as_words = rw (le-leb (length text) 65536 short, zero-add (length words))

    found : (q : Option Progress) (room' : List ℕ) → standing q room' ≡ text_taken text (standing (going 0 0 0) room)
        → Found text room (option_map (λ (p : Progress). p.count) q) room'
    unfolding well_formed numbers_in
    found None room' e =
        record { good = (reads (standing lost room') e).good ∙ sym as_words; count = λ n h. absurd (none-some n h); numbers = λ n h. absurd (none-some n h) }
    found (Some p) room' e =
        let r = reads (standing (Some p) room') e in
        let many : length (map (value_from 0) words) ≡ length words = length-map words (value_from 0) in
        record {
          good = r.good ∙ sym as_words;
          count = λ n h. sym (same_Some p.count n h) ∙ r.count p refl ∙ omega (arith, many);
          numbers = λ n h. r.numbers p refl ∙ rw (many, zero-add (length words));
        }

    -- from some place on all is lost: the text is malformed
    pub found_lost : (i : ℕ) (room' : List ℕ) → Left text i (standing lost room') room → Found text room None room'
    found_lost i room' rest = found None room' (sym (lost_stays (drop i text) room') ∙ rest)

    -- the text is read to its end
    pub found_end : (i : ℕ) (s : Standing) → Left text i s room → length text ≤ i → (q : Option Progress) (room' : List ℕ) → standing q room' ≡ number_ended s
        → Found text room (option_map (λ (p : Progress). p.count) q) room'
    unfolding text_taken
    found_end i s rest none q room' e = found q room' (e ∙ list_end (λ bs. text_taken bs s) text i _ rest none)
