-- A head: of a run of states, what is still to come of it, as one number of 64 digits. The lowest 19 are the streams in which something is to come (0 to 15 lose the block at that place, 16
-- keeps all, 17 fills an empty way, 18 hits); then come the stream that is next, how many states the run has, the place of its first, and above all the contents that they come to next, so
-- that heads stand in the order of these.
use Rattle.std.specs.Prelude.{Bool, cond, ℕ, ◌+◌, ◌*◌, ◌/◌, ◌%◌, eqb, ltb}
use Rattle.std.specs.Int.Bits.{bit_or}
use Rattle.rules.specs.Contents.{without}
use Rattle.tables.specs.Following.{top_held}

-- ---- what it says

-- the streams in which something is still to come, a digit for each
abbrev pub streams_in : ℕ → ℕ
streams_in h = h % 524288

-- the one in which it comes next
abbrev pub stream_in : ℕ → ℕ
stream_in h = h / 524288 % 32

-- which states the run has: the place of the first times 128, and how many they are
abbrev pub stretch_in : ℕ → ℕ
stretch_in h = h / 16777216 % 8192

-- how many states the run has
abbrev pub length_in : ℕ → ℕ
length_in h = h / 16777216 % 128

-- the place of the first of them
abbrev pub start_in : ℕ → ℕ
start_in h = h / 2147483648 % 64

-- the contents that they come to next
abbrev pub contents_in : ℕ → ℕ
contents_in h = h / 1099511627776

-- ---- how it is made

-- the stream that comes next, of L: that which loses the highest place, or where none is lost the highest of all
unfoldable pub first_stream : ℕ → ℕ
first_stream L = cond (eqb (L % 65536) 0) (top_held 64 L) (top_held 64 (L % 65536))

-- the contents that C comes to in stream k; o is the accessed block alone
unfoldable pub contents_at : ℕ → ℕ → ℕ → ℕ
contents_at C o k = cond (ltb k 16) (bit_or (without C k) o) (bit_or C o)

-- the head of a run of contents C, the stretch R, of which something is to come in the streams L; of each as many digits as there is room for
unfoldable pub head_of : ℕ → ℕ → ℕ → ℕ → ℕ
head_of C o R L = contents_at C o (first_stream (L % 524288)) % 16777216 * 1099511627776 + R % 8192 * 16777216 + first_stream (L % 524288) * 524288 + L % 524288

-- the head of the same run, of contents C, when the stream that is next in h has come
unfoldable pub next_head : ℕ → ℕ → ℕ → ℕ
next_head C o h = head_of C o (stretch_in h) (without (streams_in h) (stream_in h))

-- the streams that have something of a run of hits, of states that fill an empty way, or of those that can lose the blocks E, of sixteen
unfoldable pub streams_for : Bool → Bool → ℕ → ℕ
streams_for h f E = cond h 262144 (cond f 131072 (E % 65536 + 65536))
