-- The outcome that a result of the code stands for.
use Rattle.std.specs.Prelude.{ℕ, List, Result, Ok, Err}
use Rattle.std.specs.Borrow.{Bor}
use Rattle.std.specs.Cow.{cow_str_bytes}
use Rattle.monch.specs.declared.core_parsers.error.ParseError.{ParseError}
use Rattle.monch.specs.declared.core_parsers.error.ParseError.TheVariants.{Backtrace, Failure, OutOfMemory}
use Rattle.monch.specs.core_parsers.Outcome.{Refusal, backtrack, failure, no_memory, Outcome, success, refused}

-- the refusal that an error stands for
abbrev pub refusal_of : ParseError → Refusal
refusal_of Backtrace = backtrack
refusal_of (Failure f) = failure f.value.input.now (cow_str_bytes f.value.message)
refusal_of OutOfMemory = no_memory

-- the outcome that a result stands for
abbrev pub seen : {O : Type 0} → Result (Bor (List ℕ) × O) ParseError → Outcome O
seen (Ok p) = success p.0.now p.1
seen (Err e) = refused (refusal_of e)
