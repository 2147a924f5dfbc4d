-- What is given to C of an answer: a number, and what stands behind each pointer afterwards. Where the answer is a refusal, what would have taken a value keeps what stood
-- there.
use Rattle.std.specs.Prelude.{Bool, true, false, ℕ, Result, Ok, Err, Option, Some, None}
use Rattle.rules.specs.declared.Units.{Units}
use Rattle.rules.specs.declared.Cache.{Cache}
use Rattle.rules.specs.declared.Refusal.{Refusal}
use Rattle.rules.specs.declared.Start.{Start}
use Rattle.rules.specs.declared.Start.TheVariants.{Cold, Warm}
use Rattle.rules.specs.Answers.{number_of, Outcome}
use Rattle.rules.specs.Input.{cache}
use Rattle.rules.specs.Starts.{start_from}
use Rattle.listing.specs.declared.GraphSize.{GraphSize}
use Rattle.recorder.specs.declared.Reading.{Reading}
use Rattle.recorder.specs.declared.Reading.TheVariants.{Accesses as AccessesRead, Damaged}
use Rattle.recorder.specs.Calls.{reading_says}

-- ---- the cache that a call names

-- Z sets of N ways, revision v, used or empty
abbrev pub cache_given : ℕ → ℕ → ℕ → Bool → Cache
cache_given Z N v warm = cache Z N v (start_from warm)

-- ---- the graph call: 0, or the refusal's number; how many states and how many units set aside

-- what is given of its answer: the number, and what stands behind both pointers
pub record OutcomeGiven : Type 0 where
  pub number : ℕ
  pub states : ℕ
  pub aside : ℕ

-- where `states` and `aside` stood behind them
abbrev pub outcome_given : Outcome → ℕ → ℕ → OutcomeGiven
outcome_given (Ok f) states aside = record { number = 0; states = f.states; aside = f.aside.0 }
outcome_given (Err r) states aside = record { number = number_of r; states = states; aside = aside }

-- ---- a question: 0, or the refusal's number; and its value

-- what is given of a question: the number, and what stands behind the pointer
pub record ValueGiven : Type 0 where
  pub number : ℕ
  pub value : ℕ

-- a count: of misses, cycles or accesses
abbrev pub count_given : Result ℕ Refusal → ℕ → ValueGiven
count_given (Ok n) value = record { number = 0; value = n }
count_given (Err r) value = record { number = number_of r; value = value }

-- units
abbrev pub amount_given : Result Units Refusal → ℕ → ValueGiven
amount_given (Ok u) value = record { number = 0; value = u.0 }
amount_given (Err r) value = record { number = number_of r; value = value }

-- ---- a trace that is read: 0, or the refusal's number; how many accesses, or the place of the first damaged block

-- the number, and what stands behind the two pointers
pub record ReadingGiven : Type 0 where
  pub number : ℕ
  pub count : ℕ
  pub place : ℕ

-- of its answer, where `count` and `place` stood behind them
abbrev pub reading_given : Result Reading Refusal → ℕ → ℕ → ReadingGiven
reading_given (Ok (AccessesRead n)) count place = record { number = 0; count = n; place = place }
reading_given (Ok (Damaged p)) count place = record { number = (reading_says (Ok (Damaged p))).number; count = count; place = p }
reading_given (Err r) count place = record { number = number_of r; count = count; place = place }

-- ---- the graph of a listing: 0, or the refusal's number; how many nodes, accesses and edges

-- what is given of its answer: the number, and what stands behind the three pointers
pub record SizesGiven : Type 0 where
  pub number : ℕ
  pub nodes : ℕ
  pub access_count : ℕ
  pub edge_count : ℕ

-- where `nodes`, `access_count` and `edge_count` stood behind them
abbrev pub sizes_given : Result GraphSize Refusal → ℕ → ℕ → ℕ → SizesGiven
sizes_given (Ok g) nodes access_count edge_count = record { number = 0; nodes = g.nodes; access_count = g.accesses; edge_count = g.edges }
sizes_given (Err r) nodes access_count edge_count = record { number = number_of r; nodes = nodes; access_count = access_count; edge_count = edge_count }

-- ---- a text: how many bytes it has, or 0 where a room is too short

-- how many bytes
abbrev pub bytes_of : Option ℕ → ℕ
bytes_of (Some n) = n
bytes_of None = 0
