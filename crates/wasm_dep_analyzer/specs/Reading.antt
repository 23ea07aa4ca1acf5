-- Reading from left to right: what is read and the bytes behind it, or the first fault.
use Rattle.std.specs.Prelude.{◌≡◌, ℕ, List, Result, Ok, Err, MatchResult}
use Rattle.wasm_dep_analyzer.specs.declared.error.ParseError.{ParseError}
use Rattle.wasm_dep_analyzer.specs.declared.error.ParseError.TheVariants.{OutOfMemory}

-- a value and the bytes after it, or the fault that is met first
abbrev pub Read : Type 0 → Type 0
Read A = Result (A × List ℕ) ParseError

-- one step, and then what follows from its value
infixl 10 ◌>>=◌
abbrev pub ◌>>=◌ : {A B : Type 0} → Result A ParseError → (A → Result B ParseError) → Result B ParseError
(Ok x) >>= f = f x
(Err e) >>= f = Err e

-- a function returned, seen by view, what reading gives
abbrev pub Gives : {X Y : Type 0} → (X → Y) → Result X ParseError → Result Y ParseError → Type 0
Gives view result read = MatchResult result (λ x. read ≡ Ok (view x)) (λ e. read ≡ Err e)

-- the fault is the one that reading meets, unless memory ran out
abbrev pub IsFaultOf : {Y : Type 0} → ParseError → Result Y ParseError → Type 0
IsFaultOf OutOfMemory read = Unit {0}
IsFaultOf e read = read ≡ Err e

-- the same as `Gives`, unless memory ran out
abbrev pub GivesInRoom : {X Y : Type 0} → (X → Y) → Result X ParseError → Result Y ParseError → Type 0
GivesInRoom view result read = MatchResult result (λ x. read ≡ Ok (view x)) (λ e. IsFaultOf e read)
