-- Reading byte by byte: where it stands, and what each byte does to that.
use Rattle.std.specs.Prelude.{cond, ◌&&◌, List, [], ◌∷◌, ℕ, ◌+◌, ◌-◌, ◌*◌, eqb, leb, ltb, set, Option, Some, None}
use Rattle.reading.specs.declared.Progress.{Progress}
use Rattle.reading.specs.Reading.{is_gap, is_digit}

-- how far reading has come, and the room, with the numbers that are done at its front
pub record Standing : Type 0 where
  pub progress : Option Progress
  pub room : List ℕ

-- the two put together
abbrev pub standing : Option Progress → List ℕ → Standing
standing p room = record { progress = p; room = room }

-- all is well: n numbers are done, and the number under way has k digits, which say v; with no digits none is under way
abbrev pub going : ℕ → ℕ → ℕ → Option Progress
going n k v = Some (record { count = n; digits = k; value = v })

-- the text is malformed, whatever follows
abbrev pub lost : Option Progress
lost = None

-- the byte b is one more digit of the number under way
unfoldable pub digit_added : ℕ → Progress → Option Progress
digit_added b p =
    let v = p.value * 10 + (b - 48) in
    cond (ltb p.digits 10 && is_digit b && leb v 4294967295) (going p.count (p.digits + 1) v) lost

-- what f makes of the progress and the room; what is lost stays so
abbrev pub unless_lost : (Progress → List ℕ → Standing) → Option Progress → List ℕ → Standing
unless_lost f None room = standing None room
unless_lost f (Some p) room = f p room

-- the number under way, if there is one, is done
unfoldable pub number_ended : Standing → Standing
number_ended s =
    unless_lost
    (λ p room.
    let next = standing (going (p.count + 1) 0 0) (set room p.count p.value) in
    cond (eqb p.digits 0) (standing (Some p) room) (cond (ltb p.count 16384) next (standing lost room)))
    s.progress s.room

-- the byte b is taken
unfoldable pub byte_taken : ℕ → Standing → Standing
byte_taken b s =
    unless_lost (λ p room. cond (is_gap b) (number_ended (standing (Some p) room)) (standing (digit_added b p) room)) s.progress s.room

-- the rest of a text is taken, to its end
unfoldable pub text_taken : List ℕ → Standing → Standing
text_taken [] s = number_ended s
text_taken (b ∷ text) s = text_taken text (byte_taken b s)
