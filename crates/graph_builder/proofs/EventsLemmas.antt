-- What happened to a loader: requests and answers of parts of it, and what is outstanding.
use Rattle.std.proofs.Common.{◌≡◌, inl, inr, ◌≤◌, ◌<◌, ℕ, ◌+◌, Bool, true, false, List, [], ◌∷◌, ◌++◌, length, refl, sym, ◌∙◌, ap, subst, arith, Option, Some, None, append-nil, append_assoc, length-append}
use Rattle.std.specs.Prelude.{bytes_eq, ◌||◌, is_some, if◌then◌else◌}
use Rattle.std.specs.List.{IsDistinct, AllByRecursion}
use Rattle.std.specs.Map.{keys_of}
use Rattle.std.specs.Cmp.Lexicographic.{same_text}
use Rattle.std.proofs.lemmas.Map.Made.{is_some-lookup}
use Rattle.graph_entry.specs.declared.answer.LoadAnswer.{LoadAnswer}
use Rattle.graph_builder.specs.Reach.{Specifier, Log, answer_to, has}
use Rattle.graph_builder.specs.Events.{Event, Requested, Answered, asked_of, log_of, IsOutstanding, IsTimelyAfter, IsTimely, times, requests, answers}

-- ---- requests and answers

pub asked_of-append : (xs ys : List Event) → asked_of (xs ++ ys) ≡ asked_of xs ++ asked_of ys
asked_of-append [] ys = refl
asked_of-append (Requested s ∷ xs) ys = ap (λ (l : List Specifier). s ∷ l) (asked_of-append xs ys)
asked_of-append (Answered s a ∷ xs) ys = asked_of-append xs ys

pub log_of-append : (xs ys : List Event) → log_of (xs ++ ys) ≡ log_of xs ++ log_of ys
log_of-append [] ys = refl
log_of-append (Requested s ∷ xs) ys = log_of-append xs ys
log_of-append (Answered s a ∷ xs) ys = ap (λ (l : Log). (s, a) ∷ l) (log_of-append xs ys)

-- what a request adds
pub asked_of-request : (xs : List Event) (s : Specifier) → asked_of (xs ++ Requested s ∷ []) ≡ asked_of xs ++ s ∷ []
asked_of-request xs s = asked_of-append xs (Requested s ∷ [])

pub log_of-request : (xs : List Event) (s : Specifier) → log_of (xs ++ Requested s ∷ []) ≡ log_of xs
log_of-request xs s = log_of-append xs (Requested s ∷ []) ∙ append-nil (log_of xs)

-- what an answer adds
pub asked_of-answer : (xs : List Event) (s : Specifier) (a : LoadAnswer)
    → asked_of (xs ++ Answered s a ∷ []) ≡ asked_of xs
asked_of-answer xs s a = asked_of-append xs (Answered s a ∷ []) ∙ append-nil (asked_of xs)

pub log_of-answer : (xs : List Event) (s : Specifier) (a : LoadAnswer)
    → log_of (xs ++ Answered s a ∷ []) ≡ log_of xs ++ (s, a) ∷ []
log_of-answer xs s a = log_of-append xs (Answered s a ∷ [])

-- each event is a request or an answer
pub length-events : (xs : List Event) → length xs ≡ length (asked_of xs) + length (log_of xs)
length-events [] = refl
length-events (Requested s ∷ xs) = let rest = length-events xs in omega (arith, rest)
length-events (Answered s a ∷ xs) = let rest = length-events xs in omega (arith, rest)

-- ---- in time

-- first some events, and then more
pub timely_append : (before xs ys : List Event) → IsTimelyAfter before xs → IsTimelyAfter (before ++ xs) ys
    → IsTimelyAfter before (xs ++ ys)
timely_append before [] ys h k = subst (λ (b : List Event). IsTimelyAfter b ys) (append-nil before) k
timely_append before (Requested s ∷ xs) ys h k =
    timely_append (before ++ Requested s ∷ []) xs ys h
    (subst (λ (b : List Event). IsTimelyAfter b ys) (sym (append_assoc before (Requested s ∷ []) xs)) k)
timely_append before (Answered s a ∷ xs) ys h k = (
  h.0,
  timely_append (before ++ Answered s a ∷ []) xs ys h.1
      (subst (λ (b : List Event). IsTimelyAfter b ys) (sym (append_assoc before (Answered s a ∷ []) xs)) k),
)

-- requests alone are in time
timely_requests : (before more : List Event) → log_of more ≡ [] → IsTimelyAfter before more
timely_requests before [] none = tt
timely_requests before (Requested s ∷ more) none = timely_requests (before ++ Requested s ∷ []) more none
timely_requests before (Answered s a ∷ more) none = absurd cc

pub timely_asked : (xs more : List Event) → IsTimely xs → log_of more ≡ [] → IsTimely (xs ++ more)
timely_asked xs more h none = timely_append [] xs more h (timely_requests xs more none)

-- an answer for what is outstanding is in time
pub timely_answer : (xs : List Event) (s : Specifier) (a : LoadAnswer) → IsTimely xs
    → IsOutstanding (asked_of xs) (log_of xs) s
    → IsTimely (xs ++ Answered s a ∷ [])
timely_answer xs s a h open_yet = timely_append [] xs (Answered s a ∷ []) h (open_yet, tt)

-- ---- how often

times_step : (s t : Specifier) (n m k : ℕ) (b : Bool) → n ≡ m + k
    → (if b then 1 else 0) + n ≡ ((if b then 1 else 0) + m) + k
times_step s t n m k true h = omega (arith, h)
times_step s t n m k false h = omega (arith, h)

pub times-append : (s : Specifier) (xs ys : List Specifier) → times s (xs ++ ys) ≡ times s xs + times s ys
times-append s [] ys = omega arith
times-append s (t ∷ xs) ys =
    times_step s t (times s (xs ++ ys)) (times s xs) (times s ys) (bytes_eq s t) (times-append s xs ys)

-- not at all
pub times_none : (s : Specifier) (xs : List Specifier) → has xs s ≡ false → times s xs ≡ 0
times_none s [] h = refl
times_none s (t ∷ xs) h = by (bytes_eq s t) h (times_none s xs)
  where
    by : (b : Bool) → (b || has xs s) ≡ false → (has xs s ≡ false → times s xs ≡ 0)
        → (if b then 1 else 0) + times s xs ≡ 0
    by true g rest = absurd cc
    by false g rest = let none = rest g in omega (arith, none)

-- what is equal to one that no other is equal to isn't among the others
pub not_among : (s t : Specifier) (ys : List Specifier) → bytes_eq s t ≡ true
    → AllByRecursion (λ z. bytes_eq t z ≡ false) ys → has ys s ≡ false
not_among s t [] e h = refl
not_among s t (y ∷ ys) e h =
    let same : s ≡ t = same_text s t (sym e) in
    let first : bytes_eq s y ≡ false = ap (λ (w : Specifier). bytes_eq w y) same ∙ h.0 in
    rw (first, not_among s t ys e h.1) refl

-- at most once, of a list without repeats
pub times_once : (s : Specifier) (xs : List Specifier) → IsDistinct bytes_eq xs → times s xs ≤ 1
unfolding IsDistinct
times_once s [] once = omega arith
times_once s (t ∷ xs) once = by (bytes_eq s t) refl (times_once s xs once.1)
  where
    by : (b : Bool) → bytes_eq s t ≡ b → times s xs ≤ 1 → (if b then 1 else 0) + times s xs ≤ 1
    by true e rest = let none : times s xs ≡ 0 = times_none s xs (not_among s t xs e once.0) in omega (arith, none)
    by false e rest = omega (arith, rest)

-- an answer of the log is counted
pub unanswered : (s : Specifier) (log : Log) → times s (keys_of log) ≡ 0 → answer_to log s ≡ None
unanswered s log none = by (answer_to log s) refl
  where
    some_time : (b : Bool) (xs : List Specifier) → (has xs s ≡ true → 0 < times s xs) → (b || has xs s) ≡ true
        → 0 < (if b then 1 else 0) + times s xs
    some_time true xs rest h = omega arith
    some_time false xs rest h = let more = rest h in omega (arith, more)

    counted : (xs : List Specifier) → has xs s ≡ true → 0 < times s xs
    counted [] h = absurd cc
    counted (x ∷ xs) h = some_time (bytes_eq s x) xs (counted xs) h

    by : (o : Option LoadAnswer) → answer_to log s ≡ o → o ≡ None
    by None e = refl
    by (Some a) e =
        let there : has (keys_of log) s ≡ true = sym (is_some-lookup (bytes_eq s) log) ∙ ap is_some e in
        absurd (let more = counted (keys_of log) there in omega (arith, more, none))

-- a specifier that was asked for more often than answered is outstanding, where each is asked for once
pub is_outstanding : (xs : List Event) (s : Specifier) → IsDistinct bytes_eq (asked_of xs)
    → answers xs s < requests xs s
    → IsOutstanding (asked_of xs) (log_of xs) s
is_outstanding xs s once more =
    let most : requests xs s ≤ 1 = times_once s (asked_of xs) once in
    (asked (has (asked_of xs) s) refl, unanswered s (log_of xs) (omega (arith, most, more)))
  where
    asked : (b : Bool) → has (asked_of xs) s ≡ b → b ≡ true
    asked true e = refl
    asked false e = absurd
        (let none : times s (asked_of xs) ≡ 0 = times_none s (asked_of xs) e in omega (arith, none, more))
