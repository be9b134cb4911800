-- What an answer carries: `Seen`, a number and a word.
use Rattle.std.specs.Prelude.{ℕ, Result, Ok, Err}
use Rattle.numbers.specs.Refusals.{number_of}
use Rattle.numbers.specs.declared.answers.Seen.{Seen}
use Rattle.numbers.specs.declared.refusals.Refusal.{Refusal}

-- the word is 0: every refusal, and every action that reads nothing
abbrev pub wordless : ℕ → Seen
wordless n = record { number = n; word = 0 }

-- a word that is handed back, or a refusal
abbrev pub seen_of : Result ℕ Refusal → Seen
seen_of (Ok w) = record { number = 0; word = w }
seen_of (Err r) = wordless (number_of r)
