-- Loaders in memory: how a module is found, and which request is answered.
use Rattle.std.proofs.Common.{suc, zero, add-one, slice_get, ◌≡◌, ◌⊎◌, inl, inr, ◌≤◌, ◌<◌, ◌+◌, ◌-◌, ℕ, Bool, true, false, cond, List, [], ◌∷◌, ◌++◌, length, take, drop, get_or, refl, sym, ◌∙◌, ap, subst, arith, Some, None}
use Rattle.std.specs.Prelude.{bytes_eq, Option, option_map, unwrap_or, not, count_by, ◌||◌, if◌then◌else◌}
use Rattle.std.specs.List.{list_any}
use Rattle.std.specs.Map.{lookup, keys_of}
use Rattle.std.specs.Cmp.Lexicographic.{nat_list_eq_equiv, same_text}
use Rattle.std.specs.declared.alloc.AllocError.{AllocError}
use Rattle.std.proofs.lemmas.List.{drop_more, drop_all, take-append-drop, map-append}
use Rattle.std.proofs.lemmas.List.Recursion.{is_count_by}
use Rattle.std.proofs.Math.Nat.{eq-or-lt_of_le}
use Rattle.url.specs.Parts.{Parts}
use Rattle.graph_entry.specs.Specifier.{text_of}
use Rattle.graph_entry.specs.declared.answer.LoadAnswer.{LoadAnswer}
use Rattle.graph_entry.specs.declared.answer.LoadAnswer.TheVariants.{Absent}
use Rattle.graph_builder.specs.declared.memory_loader.Arrival.{Arrival}
use Rattle.graph_builder.specs.declared.memory_loader.Arrival.TheVariants as arrival
use Rattle.std.proofs.Common.{Ok, Err, Result, ap₂, min}
use Rattle.std.proofs.lemmas.List.{length-map, length-append}
use Rattle.graph_builder.specs.declared.loader.LoaderPoll.TheVariants.{Pending, Answer}
use Rattle.graph_builder.specs.Reach.{Specifier, Log}
use Rattle.graph_builder.specs.declared.loader.LoaderPoll.{LoaderPoll}
use Rattle.graph_builder.specs.Events.{Event, Requested, Answered, asked_of, log_of, times, requests, answers}
use Rattle.graph_builder.specs.ByText.{value_at, number_of}
use Rattle.graph_builder.specs.Graph.{texts}
use Rattle.graph_builder.specs.Loader.{HasRisen, HasStarted, HasPolled, last_count}
use Rattle.graph_builder.proofs.EventsLemmas.{times-append}
use Rattle.graph_builder.proofs.NumberLemmas.{present}
use Rattle.graph_builder.specs.Memory.{module_answer, waits_for, settled, oldest, is_pending, next_answered, is_dropped, IsTaken, named, HasFirsts, noted, Memory, text_log, is_forced, woven, IsOrderOf, data_of, IsKeptMemory, IsStarted, IsPolled}

-- ---- the modules

abbrev or_else : Option LoadAnswer → Option LoadAnswer → Option LoadAnswer
or_else (Some a) b = Some a
or_else None b = b

or_none : (a : Option LoadAnswer) → a ≡ or_else a None
or_none (Some a) = refl
or_none None = refl

value_at-last : (modules : List (Parts × LoadAnswer)) (x : Parts × LoadAnswer) (t : Specifier)
    → value_at (modules ++ x ∷ []) t
    ≡ or_else (value_at modules t) (cond (bytes_eq t (text_of x.0)) (Some x.1) None)
value_at-last [] x t = refl
value_at-last (m ∷ modules) x t = by (bytes_eq t (text_of m.0)) (value_at-last modules x t)
  where
    by : (b : Bool) → value_at (modules ++ x ∷ []) t
        ≡ or_else (value_at modules t) (cond (bytes_eq t (text_of x.0)) (Some x.1) None)
        → cond b (Some m.1) (value_at (modules ++ x ∷ []) t)
        ≡ or_else (cond b (Some m.1) (value_at modules t)) (cond (bytes_eq t (text_of x.0)) (Some x.1) None)
    by true h = refl
    by false h = h

-- one module more, where none has its specifier
pub firsts_new : (modules old new : List (Parts × LoadAnswer)) (x : Parts × LoadAnswer)
    → new ≡ old ++ x ∷ [] → HasFirsts modules old → HasFirsts (modules ++ x ∷ []) new
firsts_new modules old new x is h t =
    ap (λ (l : List (Parts × LoadAnswer)). value_at l t) is ∙ value_at-last old x t
    ∙ ap (λ (o : Option LoadAnswer). or_else o (cond (bytes_eq t (text_of x.0)) (Some x.1) None)) (h t)
    ∙ sym (value_at-last modules x t)

-- and where one has
pub firsts_there : (modules firsts : List (Parts × LoadAnswer)) (x : Parts × LoadAnswer) (n : ℕ)
    → number_of firsts (text_of x.0) ≡ Some n → HasFirsts modules firsts → HasFirsts (modules ++ x ∷ []) firsts
firsts_there modules firsts x n has h t =
    by (bytes_eq t (text_of x.0)) refl (value_at firsts (text_of x.0)) refl ∙ sym (value_at-last modules x t)
  where
    by : (b : Bool) → bytes_eq t (text_of x.0) ≡ b → (o : Option LoadAnswer) → value_at firsts (text_of x.0) ≡ o
        → value_at firsts t ≡ or_else (value_at modules t) (cond b (Some x.1) None)
    by b is None none = absurd (present firsts (text_of x.0) n has none)
    by true is (Some a) some =
        let here : value_at firsts t ≡ Some a =
        ap (value_at firsts) (same_text t (text_of x.0) (sym is)) ∙ some in
        here ∙ ap (λ (o : Option LoadAnswer). or_else o (Some x.1)) (sym here ∙ h t)
    by false is (Some a) some = h t ∙ or_none (value_at modules t)

-- the answer of the first module is that of all
pub first_answer : (modules firsts : List (Parts × LoadAnswer)) (s : Specifier) → HasFirsts modules firsts
    → module_answer firsts s ≡ module_answer modules s
first_answer modules firsts s h = ap (λ (o : Option LoadAnswer). unwrap_or o Absent) (h s)

take_suc : (modules : List (Parts × LoadAnswer)) (n : ℕ) (url : Parts) (answer : LoadAnswer)
    → Some url ≡ option_map (λ e. e.0) (slice_get modules n)
    → Some answer ≡ option_map (λ e. e.1) (slice_get modules n)
    → take (suc n) modules ≡ take n modules ++ (url, answer) ∷ []
take_suc [] n url answer is has = absurd cc
take_suc (m ∷ modules) zero url answer is has =
    let first : url ≡ m.0 = cc in
    let second : answer ≡ m.1 = cc in
    ap₂ (λ (u : Parts) (a : LoadAnswer). (u, a) ∷ []) (sym first) (sym second)
take_suc (m ∷ modules) (suc n) url answer is has =
    ap (λ (l : List (Parts × LoadAnswer)). m ∷ l) (take_suc modules n url answer is has)

-- one more of them, by its parts
pub take_pair : (modules : List (Parts × LoadAnswer)) (n : ℕ) (url : Parts) (answer : LoadAnswer)
    → Some url ≡ option_map (λ e. e.0) (slice_get modules n)
    → Some answer ≡ option_map (λ e. e.1) (slice_get modules n)
    → take (n + 1) modules ≡ take n modules ++ (url, answer) ∷ []
take_pair modules n url answer is has = rw add-one (take_suc modules n url answer is has)

-- ---- the arrival list

untrue : (b : Bool) → not b ≡ true → b ≡ false
untrue true h = absurd cc
untrue false h = refl

true_of : (b : Bool) → not b ≡ false → b ≡ true
true_of true h = refl
true_of false h = absurd cc

passed : (waiting : List Parts) (item : Arrival) (rest : List Arrival) → is_dropped waiting item ≡ true
    → next_answered waiting (item ∷ rest) ≡ next_answered waiting rest
passed waiting (arrival.Answer url) rest h = rw (untrue (waits_for waiting url) h) refl
passed waiting arrival.Pending rest h = absurd cc
passed waiting (arrival.Force url) rest h = absurd cc

-- an item that is dropped makes no difference
pub next_passed : (waiting : List Parts) (items : List Arrival) (at : ℕ) (item : Arrival) → at < length items
    → item ≡ get_or items at item → is_dropped waiting item ≡ true
    → next_answered waiting (drop at items) ≡ next_answered waiting (drop (at + 1) items)
next_passed waiting items at item lt is h =
    rw (drop_more items at item lt, ← is) (passed waiting item (drop (at + 1) items) h)

-- the item at a place isn't dropped
pub taken_at : (waiting : List Parts) (items : List Arrival) (at : ℕ) (item : Arrival) → at < length items
    → item ≡ get_or items at item → is_dropped waiting item ≡ false
    → IsTaken waiting (drop at items)
taken_at waiting items at item lt is h = rw (drop_more items at item lt, ← is) h

-- nor is one at the end
pub taken_end : (waiting : List Parts) (items : List Arrival) (at : ℕ) → length items ≤ at
    → IsTaken waiting (drop at items)
taken_end waiting items at le = rw (drop_all at items le) tt

taken : (waiting : List Parts) (item : Arrival) (rest : List Arrival) → is_dropped waiting item ≡ false
    → next_answered waiting (item ∷ rest) ≡ (named item, rest)
taken waiting (arrival.Answer url) rest h = rw (true_of (waits_for waiting url) h) refl
taken waiting arrival.Pending rest h = refl
taken waiting (arrival.Force url) rest h = refl

-- the item at a place is the next
pub next_taken : (waiting : List Parts) (items : List Arrival) (at : ℕ) (item : Arrival) → at < length items
    → item ≡ get_or items at item → IsTaken waiting (drop at items)
    → next_answered waiting (drop at items) ≡ (named item, drop (at + 1) items)
next_taken waiting items at item lt is h =
    let here : drop at items ≡ item ∷ drop (at + 1) items = rw (drop_more items at item lt, ← is) refl in
    ap (next_answered waiting) here ∙ taken waiting item (drop (at + 1) items) (subst (IsTaken waiting) here h)

-- how many items say that nothing has come
abbrev pendings : List Arrival → ℕ
pendings [] = 0
pendings (item ∷ items) = cond (is_pending item) (1 + pendings items) (pendings items)

pendings_count : (items : List Arrival) → pendings items ≡ count_by is_pending items
pendings_count items = is_count_by pendings is_pending refl (λ item rest. refl) items

falls : (waiting : List Parts) (items : List Arrival) → 0 < length waiting → (next_answered waiting items).0 ≡ None
    → pendings (next_answered waiting items).1 < pendings items
falls [] items some h = absurd (omega arith)
falls (w ∷ waiting) [] some h = absurd cc
falls (w ∷ waiting) (arrival.Pending ∷ rest) some h = omega arith
falls (w ∷ waiting) (arrival.Force url ∷ rest) some h = absurd cc
falls (w ∷ waiting) (arrival.Answer url ∷ rest) some h =
    by (waits_for (w ∷ waiting) url) h (falls (w ∷ waiting) rest some)
  where
    by : (b : Bool) → (cond b (Some url, rest) (next_answered (w ∷ waiting) rest)).0 ≡ None
        → ((next_answered (w ∷ waiting) rest).0 ≡ None → pendings (next_answered (w ∷ waiting) rest).1 < pendings rest)
        → pendings (cond b (Some url, rest) (next_answered (w ∷ waiting) rest)).1 < pendings rest
    by true i later = absurd cc
    by false i later = later i

never_more : (waiting : List Parts) (items : List Arrival) → pendings (next_answered waiting items).1 ≤ pendings items
never_more waiting [] = omega arith
never_more waiting (arrival.Pending ∷ rest) = omega arith
never_more waiting (arrival.Force url ∷ rest) = omega arith
never_more waiting (arrival.Answer url ∷ rest) = by (waits_for waiting url) (never_more waiting rest)
  where
    by : (b : Bool) → pendings (next_answered waiting rest).1 ≤ pendings rest
        → pendings (cond b (Some url, rest) (next_answered waiting rest)).1 ≤ pendings rest
    by true later = omega arith
    by false later = later

-- with a request outstanding, nothing comes only by an item that says so
pub next_falls : (waiting : List Parts) (items left : List Arrival) → left ≡ (next_answered waiting items).1
    → 0 < length waiting → (next_answered waiting items).0 ≡ None
    → count_by is_pending left < count_by is_pending items
next_falls waiting items left is some none =
    subst (λ (n : ℕ). n < count_by is_pending items) (pendings_count left)
    (subst (λ (n : ℕ). pendings left < n) (pendings_count items)
    (subst (λ (l : List Arrival). pendings l < pendings items) (sym is) (falls waiting items some none)))

-- the items that are left hold no more of those
pub next_rises : (waiting : List Parts) (items left : List Arrival) → left ≡ (next_answered waiting items).1
    → count_by is_pending left ≤ count_by is_pending items
next_rises waiting items left is =
    subst (λ (n : ℕ). n ≤ count_by is_pending items) (pendings_count left)
    (subst (λ (n : ℕ). pendings left ≤ n) (pendings_count items)
    (subst (λ (l : List Arrival). pendings l ≤ pendings items) (sym is) (never_more waiting items)))

-- ---- the requests

-- one request less at most
pub length-settled : (waiting : List Parts) (url : Parts) → length waiting ≤ length (settled waiting url) + 1
length-settled [] url = omega arith
length-settled (w ∷ waiting) url = by (bytes_eq (text_of w) (text_of url)) (length-settled waiting url)
  where
    by : (b : Bool) → length waiting ≤ length (settled waiting url) + 1
        → suc (length waiting) ≤ length (cond b waiting (w ∷ settled waiting url)) + 1
    by true later = omega arith
    by false later = omega arith

-- ---- what came first

-- one request more
pub order_request : (order : List Bool) (asked : List Specifier) (log : Log) (s : Specifier) → IsOrderOf order asked log
    → IsOrderOf (order ++ true ∷ []) (asked ++ s ∷ []) log
    × (woven (order ++ true ∷ []) (asked ++ s ∷ []) log ≡ woven order asked log ++ Requested s ∷ [])
order_request [] [] [] s h = (tt, refl)
order_request [] [] (x ∷ log) s h = absurd h
order_request [] (r ∷ asked) log s h = absurd h
order_request (true ∷ order) [] log s h = absurd h
order_request (true ∷ order) (r ∷ asked) log s h =
    let more = order_request order asked log s h in (more.0, ap (λ (l : List Event). Requested r ∷ l) more.1)
order_request (false ∷ order) asked [] s h = absurd h
order_request (false ∷ order) asked (x ∷ log) s h =
    let more = order_request order asked log s h in (more.0, ap (λ (l : List Event). Answered x.0 x.1 ∷ l) more.1)

-- one answer more
pub order_answer : (order : List Bool) (asked : List Specifier) (log : Log) (y : Specifier × LoadAnswer)
    → IsOrderOf order asked log
    → IsOrderOf (order ++ false ∷ []) asked (log ++ y ∷ [])
    × (woven (order ++ false ∷ []) asked (log ++ y ∷ []) ≡ woven order asked log ++ Answered y.0 y.1 ∷ [])
order_answer [] [] [] y h = (tt, refl)
order_answer [] [] (x ∷ log) y h = absurd h
order_answer [] (r ∷ asked) log y h = absurd h
order_answer (true ∷ order) [] log y h = absurd h
order_answer (true ∷ order) (r ∷ asked) log y h =
    let more = order_answer order asked log y h in (more.0, ap (λ (l : List Event). Requested r ∷ l) more.1)
order_answer (false ∷ order) asked [] y h = absurd h
order_answer (false ∷ order) asked (x ∷ log) y h =
    let more = order_answer order asked log y h in (more.0, ap (λ (l : List Event). Answered x.0 x.1 ∷ l) more.1)

-- the requests and the answers of both
pub woven_parts : (order : List Bool) (asked : List Specifier) (log : Log) → IsOrderOf order asked log
    → (asked_of (woven order asked log) ≡ asked) × (log_of (woven order asked log) ≡ log)
woven_parts [] [] [] h = (refl, refl)
woven_parts [] [] (x ∷ log) h = absurd h
woven_parts [] (r ∷ asked) log h = absurd h
woven_parts (true ∷ order) [] log h = absurd h
woven_parts (true ∷ order) (r ∷ asked) log h = let rest = woven_parts order asked log h in
    (ap (λ (l : List Specifier). r ∷ l) rest.0, rest.1)
woven_parts (false ∷ order) asked [] h = absurd h
woven_parts (false ∷ order) asked (x ∷ log) h = let rest = woven_parts order asked log h in
    (rest.0, ap (λ (l : Log). x ∷ l) rest.1)

-- ---- without a forced answer

-- what is left of a list without one has none
pub unforced_rest : (at : ℕ) (items : List Arrival) → list_any is_forced items ≡ false
    → list_any is_forced (drop at items) ≡ false
unforced_rest at items none =
    right (take at items) (drop at items) (ap (list_any is_forced) (take-append-drop at items) ∙ none)
  where
    right : (xs ys : List Arrival) → list_any is_forced (xs ++ ys) ≡ false → list_any is_forced ys ≡ false
    right [] ys h = h
    right (x ∷ xs) ys h = by (is_forced x) h (right xs ys)
      where
        by : (b : Bool) → (b || list_any is_forced (xs ++ ys)) ≡ false
            → (list_any is_forced (xs ++ ys) ≡ false → list_any is_forced ys ≡ false)
            → list_any is_forced ys ≡ false
        by true g rest = absurd cc
        by false g rest = rest g

-- whatever is answered next has a request that is outstanding
pub next_waits : (waiting : List Parts) (items : List Arrival) (url : Parts) → list_any is_forced items ≡ false
    → (next_answered waiting items).0 ≡ Some url → waits_for waiting url ≡ true
next_waits [] [] url none is = absurd cc
next_waits (w ∷ waiting) [] url none is =
    let same : w ≡ url = cc in
    rw (ap (λ (u : Parts). bytes_eq (text_of u) (text_of url)) same, nat_list_eq_equiv.refl (text_of url)) refl
next_waits waiting (arrival.Pending ∷ rest) url none is = absurd cc
next_waits waiting (arrival.Force other ∷ rest) url none is = absurd cc
next_waits waiting (arrival.Answer other ∷ rest) url none is =
    by (waits_for waiting other) refl is (next_waits waiting rest url none)
  where
    by : (b : Bool) → waits_for waiting other ≡ b
        → (cond b (Some other, rest) (next_answered waiting rest)).0 ≡ Some url
        → ((next_answered waiting rest).0 ≡ Some url → waits_for waiting url ≡ true) → waits_for waiting url ≡ true
    by true e h later = let same : other ≡ url = cc in ap (waits_for waiting) (sym same) ∙ e
    by false e h later = later h

-- one where the two are equal
abbrev one_for : Specifier → Specifier → ℕ
one_for s t = if bytes_eq s t then 1 else 0

-- one request of it goes
pub times-settled : (s : Specifier) (waiting : List Parts) (url : Parts) → waits_for waiting url ≡ true
    → times s (texts waiting) ≡ times s (texts (settled waiting url)) + (if bytes_eq s (text_of url) then 1 else 0)
times-settled s [] url there = absurd cc
times-settled s (w ∷ waiting) url there =
    by (bytes_eq (text_of w) (text_of url)) refl there (times-settled s waiting url)
  where
    by : (b : Bool) → bytes_eq (text_of w) (text_of url) ≡ b → (b || waits_for waiting url) ≡ true
        → (waits_for waiting url ≡ true
        → times s (texts waiting) ≡ times s (texts (settled waiting url)) + one_for s (text_of url))
        → one_for s (text_of w) + times s (texts waiting)
        ≡ times s (texts (cond b waiting (w ∷ settled waiting url))) + one_for s (text_of url)
    by true e h later =
        let same : text_of w ≡ text_of url = same_text (text_of w) (text_of url) (sym e) in
        let one : one_for s (text_of w) ≡ one_for s (text_of url) = ap (one_for s) same in omega (arith, one)
    by false e h later =
        let rest : times s (texts waiting) ≡ times s (texts (settled waiting url)) + one_for s (text_of url) =
        later h in
        omega (arith, rest)

-- as many are open after an answer
pub open_settled : (s : Specifier) (asked waiting left : List Parts) (log more : List (Parts × LoadAnswer))
    (x : Parts × LoadAnswer) (url : Parts)
    → more ≡ log ++ x ∷ [] → text_of x.0 ≡ text_of url → left ≡ settled waiting url → waits_for waiting url ≡ true
    → times s (keys_of (text_log log)) + times s (texts waiting) ≡ times s (texts asked)
    → times s (keys_of (text_log more)) + times s (texts left) ≡ times s (texts asked)
open_settled s asked waiting left log more x url longer same fewer there kept =
    let keys : keys_of (text_log more) ≡ keys_of (text_log log) ++ text_of x.0 ∷ [] =
    ap (λ (l : List (Parts × LoadAnswer)). keys_of (text_log l)) longer
    ∙ ap keys_of (map-append (λ (e : Parts × LoadAnswer). (text_of e.0, e.1)) log (x ∷ []))
    ∙ map-append (λ (e : Specifier × LoadAnswer). e.0) (text_log log) ((text_of x.0, x.1) ∷ []) in
    let given : times s (keys_of (text_log more)) ≡ times s (keys_of (text_log log)) + times s (text_of x.0 ∷ []) =
    ap (times s) keys ∙ times-append s (keys_of (text_log log)) (text_of x.0 ∷ []) in
    let one : times s (text_of x.0 ∷ []) ≡ one_for s (text_of url) + 0 =
    ap (λ (t : Specifier). times s (t ∷ [])) same in
    let less : times s (texts waiting) ≡ times s (texts (settled waiting url)) + one_for s (text_of url) =
    times-settled s waiting url there in
    let rest : times s (texts left) ≡ times s (texts (settled waiting url)) =
    ap (λ (l : List Parts). times s (texts l)) fewer in
    omega (arith, given, one, less, rest, kept)

-- and after a request
pub open_asked : (s : Specifier) (asked waiting : List Parts) (log : List (Parts × LoadAnswer)) (url : Parts)
    → times s (keys_of (text_log log)) + times s (texts waiting) ≡ times s (texts asked)
    → times s (keys_of (text_log log)) + times s (texts (waiting ++ url ∷ [])) ≡ times s (texts (asked ++ url ∷ []))
open_asked s asked waiting log url kept =
    let w : times s (texts (waiting ++ url ∷ [])) ≡ times s (texts waiting) + times s (text_of url ∷ []) =
    ap (times s) (map-append text_of waiting (url ∷ [])) ∙ times-append s (texts waiting) (text_of url ∷ []) in
    let a : times s (texts (asked ++ url ∷ [])) ≡ times s (texts asked) + times s (text_of url ∷ []) =
    ap (times s) (map-append text_of asked (url ∷ [])) ∙ times-append s (texts asked) (text_of url ∷ []) in
    omega (arith, w, a, kept)

-- what waits is counted
times_waiting : (waiting : List Parts) (url : Parts) → waits_for waiting url ≡ true
    → 0 < times (text_of url) (texts waiting)
times_waiting waiting url there =
    let less : times (text_of url) (texts waiting)
    ≡ times (text_of url) (texts (settled waiting url)) + one_for (text_of url) (text_of url) =
    times-settled (text_of url) waiting url there in
    let one : one_for (text_of url) (text_of url) ≡ 1 = rw (nat_list_eq_equiv.refl (text_of url)) refl in
    omega (arith, less, one)

-- ---- what a poll leaves

-- a request is answered or outstanding, also after an answer
pub kept_settled : (asked : List Parts) (log more : List (Parts × LoadAnswer)) (x : Parts × LoadAnswer)
    (waiting left : List Parts) (url : Parts)
    → more ≡ log ++ x ∷ [] → left ≡ settled waiting url → length asked ≤ length log + length waiting
    → length asked ≤ length more + length left
kept_settled asked log more x waiting left url is rest kept =
    let longer : length more ≡ length log + 1 = ap length is ∙ length-append log (x ∷ []) in
    let fewer : length waiting ≤ length (settled waiting url) + 1 = length-settled waiting url in
    let same : length left ≡ length (settled waiting url) = ap length rest in
    omega arith

-- ---- what contracts of any loader see

-- what a request does
pub started_data : (old new : Memory) (url : Parts) (r : Result (Unit {0}) AllocError)
    → IsOrderOf old.order (texts old.asked) (text_log old.log)
    → IsStarted old url r new → HasStarted (text_of url) (data_of old) (data_of new) r
started_data old new url (Ok done) ordered is = rw is (record {
  events = ap (λ (l : List Specifier). woven (old.order ++ true ∷ []) l (text_log old.log))
      (map-append text_of old.asked (url ∷ []))
      ∙ (order_request old.order (texts old.asked) (text_log old.log) (text_of url) ordered).1;
  pending = refl;
  standing = refl;
  patience = omega arith;
  told = refl;
  fair = λ h. h;
})
started_data old new url (Err e) ordered is =
    rw is (record {
      events = refl;
      pending = refl;
      standing = refl;
      patience = omega arith;
      told = refl;
      fair = λ h. h;
    })

module _ (old : Memory) (ordered : IsOrderOf old.order (texts old.asked) (text_log old.log))
    (bounded : old.pending ≤ last_count) (open_requests : length old.asked ≤ length old.log + length old.waiting)
    (unforced : old.forced ≡ false → list_any is_forced old.arrival ≡ false)
    (each_open : old.forced ≡ false → (s : Specifier)
    → times s (keys_of (text_log old.log)) + times s (texts old.waiting) ≡ times s (texts old.asked)) where
  parts : (asked_of (data_of old).events ≡ texts old.asked) × (log_of (data_of old).events ≡ text_log old.log)
  parts = woven_parts old.order (texts old.asked) (text_log old.log) ordered

  asks : length (asked_of (data_of old).events) ≡ length old.asked
  asks = ap length parts.0 ∙ length-map old.asked text_of

  gave : length (log_of (data_of old).events) ≡ length old.log
  gave = ap length parts.1 ∙ length-map old.log (λ e. (text_of e.0, e.1))

  -- an answer that isn't forced has a request
  of_request : (url : Parts) → (next_answered old.waiting old.arrival).0 ≡ Some url → old.forced ≡ false
      → answers (data_of old).events (text_of url) < requests (data_of old).events (text_of url)
  of_request url next free =
      let some : 0 < times (text_of url) (texts old.waiting) =
      times_waiting old.waiting url (next_waits old.waiting old.arrival url (unforced free) next) in
      let kept = each_open free (text_of url) in
      let a : requests (data_of old).events (text_of url) ≡ times (text_of url) (texts old.asked) =
      ap (times (text_of url)) parts.0 in
      let l : answers (data_of old).events (text_of url) ≡ times (text_of url) (keys_of (text_log old.log)) =
      ap (λ (w : Log). times (text_of url) (keys_of w)) parts.1 in
      omega (arith, some, kept, a, l)

  -- what a poll does
  pub polled_data : (new : Memory) (r : Result LoaderPoll AllocError) → IsPolled old r new
      → HasPolled (data_of old) (data_of new) r
  polled_data new (Ok (Answer url answer)) (next, given, is) = rw is (record {
    events = ap (λ (l : Log). woven (old.order ++ false ∷ []) (texts old.asked) l)
        (map-append (λ (e : Parts × LoadAnswer). (text_of e.0, e.1)) old.log ((url, answer) ∷ []))
        ∙ (order_answer old.order (texts old.asked) (text_log old.log) (text_of url, answer) ordered).1;
    pending = refl;
    standing = refl;
    patience = record {
      no_more =
          next_rises old.waiting old.arrival (next_answered old.waiting old.arrival).1 refl;
      falls = λ h. absurd cc;
    };
    told = refl;
    as_told = λ b told. let same : module_answer old.modules (text_of url) ≡ b = cc in given ∙ same;
    fair = λ h. (h, of_request url next (untrue old.forced h));
  })
  polled_data new (Ok Pending) (next, is) = rw is (record {
    events = refl;
    pending = rises old.pending bounded;
    standing = ap₂ (λ (m n : ℕ). (m, n)) (sym asks) (sym gave);
    patience = record {
      no_more = next_rises old.waiting old.arrival (next_answered old.waiting old.arrival).1 refl;
      falls = λ h more. next_falls old.waiting old.arrival (next_answered old.waiting old.arrival).1 refl
          (omega (arith, asks, gave, more, open_requests)) next;
    };
    told = refl;
    as_told = tt;
    fair = λ h. (h, tt);
  })
    where
      by : (n : ℕ) → (n ≡ last_count) ⊎ (n < last_count) → HasRisen n (min (n + 1) last_count)
      by n (inl e) = inr (e, omega (arith, e))
      by n (inr lt) = inl (omega (arith, lt))

      rises : (n : ℕ) → n ≤ last_count → HasRisen n (min (n + 1) last_count)
      rises n within = by n (eq-or-lt_of_le within)
  polled_data new (Err e) is = rw is (record {
    events = refl;
    pending = omega arith;
    standing = refl;
    patience = record { no_more = omega arith; falls = λ h. absurd cc };
    told = refl;
    as_told = tt;
    fair = λ h. (h, tt);
  })

-- a request is taken as said
pub started_exact : (old : Memory) (url : Parts) (order : List Bool) (asked waiting : List Parts)
    → order ≡ old.order ++ true ∷ [] → asked ≡ old.asked ++ url ∷ [] → waiting ≡ old.waiting ++ url ∷ []
    → IsStarted old url (Ok tt) (record old { order = order; asked = asked; waiting = waiting })
started_exact old url order asked waiting ordered longer more = rw (ordered, longer, more) refl

-- that nothing has come is said
pub polled_pending : (old : Memory) (items : List Arrival) (pending : ℕ) (standing : ℕ × ℕ)
    → (next_answered old.waiting old.arrival).0 ≡ None → items ≡ (next_answered old.waiting old.arrival).1
    → pending ≡ min (old.pending + 1) last_count → standing ≡ (length old.asked, length old.log)
    → IsPolled old (Ok Pending) (record old { arrival = items; pending = pending; standing = standing })
polled_pending old items pending standing none rest counted stood = (none, rw (rest, counted, stood) refl)

-- an answer is given as said
pub polled_answer : (old : Memory) (firsts : List (Parts × LoadAnswer)) (url : Parts) (answer : LoadAnswer)
    (items : List Arrival) (order : List Bool) (more : List (Parts × LoadAnswer)) (left : List Parts)
    → (next_answered old.waiting old.arrival).0 ≡ Some url → HasFirsts old.modules firsts
    → answer ≡ module_answer firsts (text_of url)
    → items ≡ (next_answered old.waiting old.arrival).1 → order ≡ old.order ++ false ∷ []
    → more ≡ old.log ++ (url, answer) ∷ [] → left ≡ settled old.waiting url
    → IsPolled old (Ok (Answer url answer)) (record old { arrival = items; order = order; log = more; waiting = left })
polled_answer old firsts url answer items order more left next first given rest ordered longer fewer =
    (next, given ∙ first_answer old.modules firsts (text_of url) first, rw (rest, ordered, longer, fewer) refl)

-- what holds of it at all times, after a request
pub kept_request : (modules firsts : List (Parts × LoadAnswer)) (items : List Arrival)
    (order order_now : List Bool)
    (asked asked_now waiting waiting_now : List Parts) (log : List (Parts × LoadAnswer)) (url : Parts)
    → IsKeptMemory modules firsts items order asked log waiting
    → order_now ≡ order ++ true ∷ [] → asked_now ≡ asked ++ url ∷ [] → waiting_now ≡ waiting ++ url ∷ []
    → IsKeptMemory modules firsts items order_now asked_now log waiting_now
kept_request modules firsts items order order_now asked asked_now waiting waiting_now log url k ordered longer more =
    record {
      index = k.index;
      ordered = subst (λ (o : List Bool). IsOrderOf o (texts asked_now) (text_log log)) (sym ordered)
          (subst (λ (a : List Specifier). IsOrderOf (order ++ true ∷ []) a (text_log log))
          (sym (ap texts longer ∙ map-append text_of asked (url ∷ [])))
          (order_request order (texts asked) (text_log log) (text_of url) k.ordered).0);
      open_requests =
          let a : length asked_now ≡ length asked + 1 = ap length longer ∙ length-append asked (url ∷ []) in
          let w : length waiting_now ≡ length waiting + 1 = ap length more ∙ length-append waiting (url ∷ []) in
          omega (arith, a, w, k.open_requests);
      each_open = λ free s. subst
          (λ (a : List Parts). times s (keys_of (text_log log)) + times s (texts waiting_now) ≡ times s (texts a))
          (sym longer)
          (subst (λ (w : List Parts). times s (keys_of (text_log log)) + times s (texts w)
          ≡ times s (texts (asked ++ url ∷ []))) (sym more)
          (open_asked s asked waiting log url (k.each_open free s)));
    }

-- and after an answer
pub kept_answer : (modules firsts : List (Parts × LoadAnswer)) (items : List Arrival) (at : ℕ)
    (order order_now : List Bool)
    (asked waiting waiting_now : List Parts) (log log_now : List (Parts × LoadAnswer)) (x : Parts × LoadAnswer)
    (url : Parts)
    → IsKeptMemory modules firsts items order asked log waiting
    → order_now ≡ order ++ false ∷ [] → log_now ≡ log ++ x ∷ [] → x.0 ≡ url → waiting_now ≡ settled waiting url
    → (next_answered waiting (drop at items)).0 ≡ Some url
    → IsKeptMemory modules firsts items order_now asked log_now waiting_now
kept_answer modules firsts items at order order_now asked waiting waiting_now log log_now x url k ordered longer same
    fewer next = record {
      index = k.index;
      ordered = subst (λ (o : List Bool). IsOrderOf o (texts asked) (text_log log_now)) (sym ordered)
          (subst (λ (l : Log). IsOrderOf (order ++ false ∷ []) (texts asked) l)
          (sym (ap text_log longer ∙ map-append (λ (e : Parts × LoadAnswer). (text_of e.0, e.1)) log (x ∷ [])))
          (order_answer order (texts asked) (text_log log) (text_of x.0, x.1) k.ordered).0);
      open_requests = kept_settled asked log log_now x waiting waiting_now url longer fewer k.open_requests;
      each_open = λ free s.
          open_settled s asked waiting waiting_now log log_now x url longer (ap text_of same) fewer
          (next_waits waiting (drop at items) url (unforced_rest at items free) next) (k.each_open free s);
    }

-- what contracts of any loader see of a poll, by what holds of the fields
pub polled_view : (modules firsts : List (Parts × LoadAnswer)) (items : List Arrival) (at : ℕ)
    (old new : Memory)
    (r : Result LoaderPoll AllocError) (bounded : old.pending ≤ last_count)
    → IsKeptMemory modules firsts items old.order old.asked old.log old.waiting
    → old.arrival ≡ drop at items → old.forced ≡ list_any is_forced items
    → IsPolled old r new → HasPolled (data_of old) (data_of new) r
polled_view modules firsts items at old new r bounded k left forced polled =
    polled_data old k.ordered bounded k.open_requests
    (λ free. ap (list_any is_forced) left ∙ unforced_rest at items (sym forced ∙ free))
    (λ free. k.each_open (sym forced ∙ free)) new r polled

-- ---- what is noted

-- one thing more
pub noted_more : {A : Type 0} (old new : List (A × Unit {0})) (x : A) → new ≡ old ++ (x, tt) ∷ []
    → noted new ≡ noted old ++ x ∷ []
noted_more {A} old new x is =
    ap noted is ∙ map-append (λ (e : A × Unit {0}). e.0) old ((x, tt) ∷ [])

-- where there is no oldest request, none is outstanding
pub none_waiting : (waiting : List Parts) → oldest waiting ≡ None → waiting ≡ []
none_waiting [] h = refl
none_waiting (w ∷ waiting) h = absurd cc

-- ---- a kept log

-- a request is asked for
pub started_asked : (old new : Memory) (url : Parts) → IsStarted old url (Ok tt) new
    → new.asked ≡ old.asked ++ url ∷ []
started_asked old new url is = ap (λ (m : Memory). m.asked) is

-- a poll leaves what was asked
pub polled_asked : (old new : Memory) (r : Result LoaderPoll AllocError) → IsPolled old r new → new.asked ≡ old.asked
polled_asked old new (Ok (Answer url answer)) (next, given, is) = ap (λ (m : Memory). m.asked) is
polled_asked old new (Ok Pending) (none, is) = ap (λ (m : Memory). m.asked) is
polled_asked old new (Err e) is = ap (λ (m : Memory). m.asked) is

-- a request leaves the log
pub started_log : (old new : Memory) (url : Parts) (r : Result (Unit {0}) AllocError) → IsStarted old url r new
    → new.log ≡ old.log
started_log old new url (Ok done) is = ap (λ (m : Memory). m.log) is
started_log old new url (Err e) is = ap (λ (m : Memory). m.log) is

-- what it answers next
abbrev pub next_of : Memory → Option (Parts × LoadAnswer)
next_of m =
    option_map (λ url. (url, module_answer m.modules (text_of url))) (next_answered m.waiting m.arrival).0

-- an answer is what was to be answered next
pub polled_next : (old new : Memory) (polled : LoaderPoll) (x : Parts × LoadAnswer) → Some x ≡ next_of old
    → IsPolled old (Ok polled) new → new.log ≡ old.log ++ x ∷ []
polled_next old new (Answer url answer) x some (next, given, is) =
    let same : x ≡ (url, module_answer old.modules (text_of url)) = cc in
    ap (λ (m : Memory). m.log) is
    ∙ ap (λ (y : Parts × LoadAnswer). old.log ++ y ∷ [])
    (ap (λ (a : LoadAnswer). (url, a)) given ∙ sym same)
polled_next old new Pending x some (none, is) = absurd cc

-- where nothing was to be answered, nothing is
pub polled_none : (old new : Memory) (polled : LoaderPoll) → None ≡ next_of old → IsPolled old (Ok polled) new
    → new.log ≡ old.log
polled_none old new (Answer url answer) none (next, given, is) = absurd cc
polled_none old new Pending none (next, is) = ap (λ (m : Memory). m.log) is
