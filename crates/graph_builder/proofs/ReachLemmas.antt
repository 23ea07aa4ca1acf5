-- What is reached: it is closed, least, and grows with the answers.
use Rattle.std.proofs.Common.{◌≡◌, inl, inr, Bool, true, false, cond, List, [], ◌∷◌, ◌++◌, refl, sym, ◌∙◌, subst, Some, None}
use Rattle.std.specs.Prelude.{bytes_eq}
use Rattle.std.specs.Cmp.Lexicographic.{nat_list_eq_equiv}
use Rattle.graph_entry.specs.declared.answer.LoadAnswer.{LoadAnswer}
use Rattle.graph_entry.specs.declared.entry.Entry.{Entry}
use Rattle.graph_builder.specs.Reach.{IsFunctional, Specifier, Answers, Log, Rules, answer_to, has, IsEntry, Leads, IsWay, IsReached}

-- each answer of the first is an answer of the second
abbrev pub IsWithin : Answers → Answers → Type 0
IsWithin few many = (s : Specifier) (a : LoadAnswer) → few s ≡ Some a → many s ≡ Some a

-- ---- reach is closed

-- each start is reached
pub reached_start : (rules : Rules) (starts : List Specifier) (answers : Answers) (s : Specifier)
    → has starts s ≡ true → IsReached rules starts answers s
reached_start rules starts answers s h = record { way = []; leads_here = h }

-- and what a step leads to from there
pub reached_on : (rules : Rules) (starts : List Specifier) (answers : Answers) (r s : Specifier)
    → IsReached rules starts answers r → Leads rules answers r s → IsReached rules starts answers s
reached_on rules starts answers r s reached leads =
    record { way = r ∷ reached.way; leads_here = (reached.leads_here, leads) }

-- ---- reach is least

-- whatever has the starts and is closed under steps has all that is reached
pub reached_least : (rules : Rules) (starts : List Specifier) (answers : Answers) (P : Specifier → Type 0)
    → ((s : Specifier) → has starts s ≡ true → P s)
    → ((r s : Specifier) → P r → Leads rules answers r s → P s)
    → (s : Specifier) → IsReached rules starts answers s → P s
reached_least rules starts answers P begins steps s reached = along reached.way s reached.leads_here
  where
    along : (way : List Specifier) (s : Specifier) → IsWay rules starts answers way s → P s
    along [] s h = begins s h
    along (r ∷ way) s h = steps r s (along way r h.0) h.1

-- ---- reach grows

-- an entry stays as answers come
pub entry_grows : (rules : Rules) (few many : Answers) → IsWithin few many → (s : Specifier) (e : Entry)
    → IsEntry rules few s e → IsEntry rules many s e
entry_grows rules few many within s e (inl a) =
    inl (record { loads = a.loads; answer = a.answer; given = within s a.answer a.given; means = a.means })
entry_grows rules few many within s e (inr u) = inr u

-- a step stays
pub leads_grows : (rules : Rules) (few many : Answers) → IsWithin few many → (r s : Specifier)
    → Leads rules few r s → Leads rules many r s
leads_grows rules few many within r s l =
    record { entry = l.entry; is_entry = entry_grows rules few many within r l.entry l.is_entry; among = l.among }

-- what is reached stays reached
pub reached_grows : (rules : Rules) (starts : List Specifier) (few many : Answers) → IsWithin few many → (s : Specifier)
    → IsReached rules starts few s → IsReached rules starts many s
reached_grows rules starts few many within =
    reached_least rules starts few (IsReached rules starts many)
    (reached_start rules starts many)
    (λ r s reached leads. reached_on rules starts many r s reached (leads_grows rules few many within r s leads))

-- ---- entries are determined

-- a specifier has at most one entry
pub entry_once : (rules : Rules) → IsFunctional rules → (answers : Answers) (s : Specifier) (e f : Entry)
    → IsEntry rules answers s e → IsEntry rules answers s f → e ≡ f
entry_once rules once answers s e f (inl a) (inl b) =
    once s (Some b.answer) e f (subst (λ x. rules.means s x e) (sym a.given ∙ b.given) a.means) b.means
entry_once rules once answers s e f (inl a) (inr u) = absurd cc
entry_once rules once answers s e f (inr u) (inl b) = absurd cc
entry_once rules once answers s e f (inr u) (inr v) = once s None e f u.1 v.1

-- ---- answers in the order in which they came

-- an answer stays the first one as others come
pub answer_kept : (log more : Log) → IsWithin (answer_to log) (answer_to (log ++ more))
answer_kept [] more s a = λ h. absurd cc
answer_kept (x ∷ log) more s a = kept (bytes_eq s x.0) (answer_kept log more s a)
  where
    kept : (b : Bool) → (answer_to log s ≡ Some a → answer_to (log ++ more) s ≡ Some a)
        → cond b (Some x.1) (answer_to log s) ≡ Some a → cond b (Some x.1) (answer_to (log ++ more) s) ≡ Some a
    kept true rest h = h
    kept false rest h = rest h

-- a specifier that the log doesn't answer has the answer of what comes after
pub answer_later : (log more : Log) (s : Specifier) → answer_to log s ≡ None
    → answer_to (log ++ more) s ≡ answer_to more s
answer_later [] more s = λ h. refl
answer_later (x ∷ log) more s = later (bytes_eq s x.0) (answer_later log more s)
  where
    later : (b : Bool) → (answer_to log s ≡ None → answer_to (log ++ more) s ≡ answer_to more s)
        → cond b (Some x.1) (answer_to log s) ≡ None → cond b (Some x.1) (answer_to (log ++ more) s) ≡ answer_to more s
    later true rest h = absurd cc
    later false rest h = rest h

-- another specifier's answer leaves its own
pub answer_other : (log : Log) (r : Specifier) (a : LoadAnswer) (s : Specifier) → bytes_eq s r ≡ false
    → answer_to (log ++ (r, a) ∷ []) s ≡ answer_to log s
answer_other [] r a s h = rw h refl
answer_other (x ∷ log) r a s h = rw (answer_other log r a s h) refl

-- the first answer for a specifier counts
pub answer_here : (log : Log) (r : Specifier) (a : LoadAnswer) → answer_to log r ≡ None
    → answer_to (log ++ (r, a) ∷ []) r ≡ Some a
answer_here log r a h = answer_later log ((r, a) ∷ []) r h ∙ rw (nat_list_eq_equiv.refl r) refl
