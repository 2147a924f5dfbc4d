-- Text written into lent room, one piece behind the other, as far as the room goes.
use Rattle.std.specs.Prelude.{◌≡◌, cond, List, [], ◌∷◌, ℕ, suc, ltb, length, set}

-- a room, and where the text in it ends
pub record Page : Type 0 where
  pub end : ℕ
  pub room : List ℕ

-- a byte behind the text; where there is no room for it nothing changes
abbrev pub with_byte : ℕ → Page → Page
with_byte b p = cond (ltb p.end (length p.room)) (record { end = suc p.end; room = set p.room p.end b }) p

-- bytes behind the text, one by one
unfoldable pub with_bytes : List ℕ → Page → Page
with_bytes [] p = p
with_bytes (b ∷ bs) p = with_bytes bs (with_byte b p)

-- the bytes bs were put into the room o from place `at` on: they end at r, and the room is o' then
abbrev pub Put : List ℕ → ℕ → ℕ → List ℕ → List ℕ → Type 0
Put bs at r o o' = record { end = r; room = o' } ≡ with_bytes bs (record { end = at; room = o })
