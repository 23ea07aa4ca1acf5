-- What one name more or less makes of what is kept.
use Rattle.std.specs.Prelude.{ℕ, ◌+◌, ◌<◌, Bool, true, false, List, [], ◌∷◌, ◌++◌, length, Option, Some, None, if◌then◌else◌, bytes_eq}
use Rattle.std.specs.List.{}
use Rattle.std.proofs.Common.{◌≡◌, refl, sym, ap, ◌∙◌, arith}
use Rattle.std.proofs.lemmas.List.{append-nil, append_assoc}
use Rattle.std.proofs.lemmas.Slice.Eq.{bytes_eq-Decides}
use Rattle.es_token.specs.declared.token.Token.{Token}
use Rattle.es_scopes.specs.declared.steps.Place.{Place}
use Rattle.es_scopes.specs.declared.steps.Mark.{Mark}
use Rattle.es_scopes.specs.declared.steps.Mark.TheVariants as mark
use Rattle.es_scopes.specs.Marks.{Marks}
use Rattle.es_scopes.specs.Numbers.{Scope, Named, named_in, closed, innermost, home, is_number, same_spelling, declaring, numbered}
use Rattle.es_variables.specs.scope_numbers.Stacks.{Opened, declared_in, last_of, spelled_at, copies, stack_in, left_in, AreDeclared, AreStacked}
use Rattle.es_variables.specs.scope_numbers.Spelt.{extra, popped}
use Rattle.es_variables.specs.scope_numbers.Meets.{at_home, Meets}
use Rattle.es_variables.proofs.scope_numbers_lemmas.TopLemmas.{is_there, popped_rest}
use Rattle.es_variables.proofs.scope_numbers_lemmas.Stacks.{last_declaring, none_declaring}

-- a list without the last one, and without any
pub empty : {A : Type 0} (xs : List A) → length xs ≡ 0 → xs ≡ []
empty [] e = refl
empty (x ∷ xs) e = absurd (omega arith)

module _ (x : List ℕ) (ts : List Token) where
  -- ---- the number at the spellings of tokens
  abbrev spells : List ℕ → ℕ → Bool
  spells q token = same_spelling x ts (Some q) (spelled_at x ts token)

  copies_app : (n : ℕ) (q : List ℕ) (tokens others : List ℕ)
      → copies x ts n (tokens ++ others) q ≡ copies x ts n tokens q ++ copies x ts n others q
  copies_app n q [] others = refl
  copies_app n q (token ∷ tokens) others = one (copies_app n q tokens others) (spells q token) refl
    where
      one : copies x ts n (tokens ++ others) q ≡ copies x ts n tokens q ++ copies x ts n others q
          → (b : Bool) → spells q token ≡ b
          → copies x ts n (token ∷ tokens ++ others) q ≡ copies x ts n (token ∷ tokens) q ++ copies x ts n others q
      one all true e = rw (e) (ap (λ ns. n ∷ ns) all)
      one all false e = rw (e) all

  -- a token that is spelled so, and one that isn't there
  pub copies_some : (n token : ℕ) (name : List ℕ) (q : List ℕ) → spelled_at x ts token ≡ Some name
      → copies x ts n (token ∷ []) q ≡ extra name n q
  copies_some n token name q e = by (bytes_eq q name) refl
    where
      by : (b : Bool) → bytes_eq q name ≡ b → copies x ts n (token ∷ []) q ≡ extra name n q
      by true f = rw (e, f) refl
      by false f = rw (e, f) refl

  pub copies_none : (n token : ℕ) (q : List ℕ) → spelled_at x ts token ≡ None → copies x ts n (token ∷ []) q ≡ []
  copies_none n token q e = rw (e) refl

  -- a name away
  pub popped_some : (name : List ℕ) (token : ℕ) (old new : List ℕ → List ℕ) → spelled_at x ts token ≡ Some name
      → (0 < length (old name) → (q : List ℕ) → new q ≡ popped name q (old q))
      → (rest : List ℕ → List ℕ) (n : ℕ) → ((q : List ℕ) → old q ≡ rest q ++ copies x ts n (token ∷ []) q)
      → (q : List ℕ) → new q ≡ rest q
  popped_some name token old new e less rest n so =
      let itself : extra name n name ≡ n ∷ [] =
      ap (λ b. if b then n ∷ [] else []) ((bytes_eq-Decides name name).1 refl) in
      let here : old name ≡ rest name ++ n ∷ [] =
      so name ∙ ap (λ s. rest name ++ s) (copies_some n token name name e ∙ itself) in
      popped_rest name rest old new n (less (is_there (old name) (rest name) n here))
      (λ q. so q ∙ ap (λ s. rest q ++ s) (copies_some n token name q e))

  pub popped_none : (token : ℕ) (old : List ℕ → List ℕ) → spelled_at x ts token ≡ None
      → (rest : List ℕ → List ℕ) (n : ℕ) → ((q : List ℕ) → old q ≡ rest q ++ copies x ts n (token ∷ []) q)
      → (q : List ℕ) → old q ≡ rest q
  popped_none token old e rest n so q =
      so q ∙ ap (λ s. rest q ++ s) (copies_none n token q e) ∙ append-nil (rest q)

  -- one token more, from the front
  pub push_more : (n token : ℕ) (names row : List ℕ) (old now new : List ℕ → List ℕ) (rest : List ℕ)
      → row ≡ token ∷ rest
      → ((q : List ℕ) → now q ++ copies x ts n row q ≡ old q ++ copies x ts n names q)
      → ((q : List ℕ) → new q ≡ now q ++ copies x ts n (token ∷ []) q)
      → (q : List ℕ) → new q ++ copies x ts n rest q ≡ old q ++ copies x ts n names q
  push_more n token names row old now new rest is so grown q =
      ap (λ s. s ++ copies x ts n rest q) (grown q)
      ∙ append_assoc (now q) (copies x ts n (token ∷ []) q) (copies x ts n rest q)
      ∙ ap (λ s. now q ++ s) (sym (copies_app n q (token ∷ []) rest))
      ∙ ap (λ r. now q ++ copies x ts n r q) (sym is)
      ∙ so q

  -- one token less, from the end
  pub pop_less : (n token : ℕ) (row before : List ℕ) (now rest : List ℕ → List ℕ) → row ≡ before ++ token ∷ []
      → ((q : List ℕ) → now q ≡ rest q ++ copies x ts n row q)
      → (q : List ℕ) → now q ≡ (rest q ++ copies x ts n before q) ++ copies x ts n (token ∷ []) q
  pop_less n token row before now rest is so q =
      so q ∙ ap (λ r. rest q ++ copies x ts n r q) is
      ∙ ap (λ s. rest q ++ s) (copies_app n q before (token ∷ []))
      ∙ sym (append_assoc (rest q) (copies x ts n before q) (copies x ts n (token ∷ []) q))

  -- ---- a scope more and a scope less
  pub stacked_more : (names : List Named) (around : List Scope) (s : Scope) (tokens : ℕ → List ℕ)
      (old new : List ℕ → List ℕ) → AreDeclared names tokens → AreStacked x ts names around old
      → ((q : List ℕ) → new q ≡ old q ++ copies x ts s.number (tokens s.number) q)
      → AreStacked x ts names (s ∷ around) new
  stacked_more names around s tokens old new are so grown q =
      grown q ∙ ap (λ k. k ++ copies x ts s.number (tokens s.number) q) (so q)
      ∙ ap (λ d. stack_in x ts names around q ++ copies x ts s.number d q) (are s.number)

  pub stacked_less : (names : List Named) (around : List Scope) (s : Scope) (tokens : ℕ → List ℕ)
      (old : List ℕ → List ℕ) → AreDeclared names tokens → AreStacked x ts names (s ∷ around) old
      → (q : List ℕ) → old q ≡ stack_in x ts names around q ++ copies x ts s.number (tokens s.number) q
  stacked_less names around s tokens old are so q =
      so q ∙ ap (λ d. stack_in x ts names around q ++ copies x ts s.number d q) (sym (are s.number))

  -- the innermost of these scopes ends
  the : Option ℕ → ℕ
  the (Some n) = n
  the None = 0

  pub closed_some : (names : List Named) (n : ℕ) (tokens : ℕ → List ℕ) (old new : List ℕ → List ℕ)
      → ((rest : List ℕ → List ℕ) (m : ℕ) → ((q : List ℕ) → old q ≡ rest q ++ copies x ts m (tokens n) q)
      → (q : List ℕ) → new q ≡ rest q)
      → (around : List Scope) → Some n ≡ innermost around → AreDeclared names tokens
      → AreStacked x ts names around old → AreStacked x ts names (closed around) new
  unfolding the
  closed_some names n tokens old new less [] e are so = absurd (let bad : ⊥ = cc in bad)
  closed_some names n tokens old new less (s ∷ around) e are so =
      let same : n ≡ s.number = ap the e in
      less (λ q. stack_in x ts names around q) s.number
      (λ q. stacked_less names around s tokens old are so q
      ∙ ap (λ k. stack_in x ts names around q ++ copies x ts s.number (tokens k) q) (sym same))

  pub closed_none : (names : List Named) (tokens : ℕ → List ℕ) (old : List ℕ → List ℕ) (around : List Scope)
      → None ≡ innermost around → AreDeclared names tokens → AreStacked x ts names around old
      → AreStacked x ts names (closed around) old
  closed_none names tokens old [] e are so = so
  closed_none names tokens old (s ∷ around) e are so = absurd (let bad : ⊥ = cc in bad)

  -- ---- the number of a name
  pub number_some : (names : List Named) (around : List Scope) (token : ℕ) (name : List ℕ) (tops : List ℕ → List ℕ)
      → spelled_at x ts token ≡ Some name → AreStacked x ts names around tops
      → declaring x ts names (spelled_at x ts token) around ≡ last_of (tops name)
  number_some names around token name tops e so =
      ap (λ s. declaring x ts names s around) e ∙ sym (last_declaring x ts name names around)
      ∙ ap last_of (sym (so name))

  pub number_none : (names : List Named) (around : List Scope) (token : ℕ) → spelled_at x ts token ≡ None
      → declaring x ts names (spelled_at x ts token) around ≡ 0
  number_none names around token e =
      ap (λ s. declaring x ts names s around) e ∙ none_declaring x ts names around

  -- ---- one mark more, of the numbers
  pub left_open : (names : List Named) (old new : Opened) (hoists : Bool) (rest : Marks) (ids : List (ℕ × ℕ))
      → new.around ≡ record { number = old.next; hoists = hoists } ∷ old.around → new.next ≡ old.next + 1
      → ids ++ left_in x ts names new rest ≡ ids ++ left_in x ts names old (mark.Open hoists ∷ rest)
  left_open names old new hoists rest ids e f =
      ap (λ around. ids ++ numbered x ts names (named_in around new.next rest)) e
      ∙ ap (λ next. ids ++ numbered x ts names
      (named_in (record { number = old.next; hoists = hoists } ∷ old.around) next rest)) f

  pub left_close : (names : List Named) (old new : Opened) (rest : Marks) (ids : List (ℕ × ℕ))
      → new.around ≡ closed old.around → new.next ≡ old.next
      → ids ++ left_in x ts names new rest ≡ ids ++ left_in x ts names old (mark.Close ∷ rest)
  left_close names old new rest ids e f =
      ap (λ around. ids ++ numbered x ts names (named_in around new.next rest)) e
      ∙ ap (λ next. ids ++ numbered x ts names (named_in (closed old.around) next rest)) f

  pub left_name : (names : List Named) (opened : Opened) (place : Place) (token number : ℕ) (rest : Marks)
      (ids new : List (ℕ × ℕ))
      → declaring x ts names (spelled_at x ts token) opened.around ≡ number → new ≡ ids ++ (token, number) ∷ []
      → new ++ left_in x ts names opened rest ≡ ids ++ left_in x ts names opened (mark.Name place token ∷ rest)
  left_name names opened place token number rest ids new e grown =
      ap (λ s. s ++ left_in x ts names opened rest) grown
      ∙ append_assoc ids ((token, number) ∷ []) (left_in x ts names opened rest)
      ∙ ap (λ n. ids ++ (token, n) ∷ left_in x ts names opened rest) (sym e)

  -- the marks that are left
  pub left_more : (names : List Named) (old new : Opened) (m : Mark) (row rest : Marks) (ids more whole : List (ℕ × ℕ))
      → row ≡ m ∷ rest
      → more ++ left_in x ts names new rest ≡ ids ++ left_in x ts names old (m ∷ rest)
      → ids ++ left_in x ts names old row ≡ whole → more ++ left_in x ts names new rest ≡ whole
  left_more names old new m row rest ids more whole is grown so =
      grown ∙ ap (λ r. ids ++ left_in x ts names old r) (sym is) ∙ so

  pub left_end : (names : List Named) (opened : Opened) (row : Marks) (ids whole : List (ℕ × ℕ)) → length row ≡ 0
      → ids ++ left_in x ts names opened row ≡ whole → ids ≡ whole
  left_end names opened row ids whole e so =
      sym (append-nil ids) ∙ ap (λ r. ids ++ left_in x ts names opened r) (sym (empty row e)) ∙ so

-- ---- the tokens that scopes declare
declared_more : (n : ℕ) (it : Named) (names : List Named)
    → declared_in n (it ∷ names) ≡ at_home n (home it) it.token ++ declared_in n names
declared_more n it names = by (is_number n (home it)) refl
  where
    by : (b : Bool) → is_number n (home it) ≡ b
        → declared_in n (it ∷ names) ≡ at_home n (home it) it.token ++ declared_in n names
    by true e = rw (e) refl
    by false e = rw (e) refl

pub met : (m : Mark) (rest row : Marks) (tokens after whole : ℕ → List ℕ) (opened behind : Opened)
    → row ≡ m ∷ rest → Meets tokens opened m after behind
    → ((n : ℕ) → tokens n ++ declared_in n (named_in opened.around opened.next row) ≡ whole n)
    → (n : ℕ) → after n ++ declared_in n (named_in behind.around behind.next rest) ≡ whole n
met (mark.Open hoists) rest row tokens after whole opened behind is meets so n =
    ap (λ s. s ++ declared_in n (named_in behind.around behind.next rest)) (meets.0 n)
    ∙ ap (λ around. tokens n ++ declared_in n (named_in around behind.next rest)) meets.1
    ∙ ap (λ next. tokens n ++ declared_in n
    (named_in (record { number = opened.next; hoists = hoists } ∷ opened.around) next rest)) meets.2
    ∙ ap (λ r. tokens n ++ declared_in n (named_in opened.around opened.next r)) (sym is)
    ∙ so n
met mark.Close rest row tokens after whole opened behind is meets so n =
    ap (λ s. s ++ declared_in n (named_in behind.around behind.next rest)) (meets.0 n)
    ∙ ap (λ around. tokens n ++ declared_in n (named_in around behind.next rest)) meets.1
    ∙ ap (λ next. tokens n ++ declared_in n (named_in (closed opened.around) next rest)) meets.2
    ∙ ap (λ r. tokens n ++ declared_in n (named_in opened.around opened.next r)) (sym is)
    ∙ so n
met (mark.Name place token) rest row tokens after whole opened behind is meets so n =
    let it : Named = record { place = place; token = token; around = opened.around } in
    let names = named_in opened.around opened.next rest in
    ap (λ s. s ++ declared_in n (named_in behind.around behind.next rest)) (meets.0 n)
    ∙ append_assoc (tokens n) (at_home n (home it) token) (declared_in n (named_in behind.around behind.next rest))
    ∙ ap (λ around. tokens n ++ (at_home n (home it) token ++ declared_in n (named_in around behind.next rest))) meets.1
    ∙ ap (λ next. tokens n ++ (at_home n (home it) token ++ declared_in n (named_in opened.around next rest))) meets.2
    ∙ ap (λ s. tokens n ++ s) (sym (declared_more n it names))
    ∙ ap (λ r. tokens n ++ declared_in n (named_in opened.around opened.next r)) (sym is)
    ∙ so n

pub all_met : (row : Marks) (tokens whole : ℕ → List ℕ) (opened : Opened) → length row ≡ 0
    → ((n : ℕ) → tokens n ++ declared_in n (named_in opened.around opened.next row) ≡ whole n)
    → (n : ℕ) → tokens n ≡ whole n
all_met row tokens whole opened e so n =
    sym (append-nil (tokens n))
    ∙ ap (λ r. tokens n ++ declared_in n (named_in opened.around opened.next r)) (sym (empty row e))
    ∙ so n
