-- How the parts of a plain tree over the tokens of a text relate to the same parts over the moved tokens.
use Rattle.std.specs.Prelude.{ℕ, zero, suc, Bool, true, false, List, ◌++◌, Option, Some, None, option_map, slice_get, slice_range, if◌then◌else◌}
use Rattle.std.proofs.Common.{◌≡◌, refl, sym, ap, ◌∙◌, subst}
use Rattle.es_token.specs.declared.token.Token.{Token}
use Rattle.es_token.specs.declared.token.TokenKind.{TokenKind}
use Rattle.es_lowering.specs.Value.{Value, Typed, absent, nil, more, token, node, given, part, typed, first_of, behind, as_group, optional, option_list, is_there, turns}
use Rattle.es_lowering.specs.Texts.{private_of, piece_of, shebang_of}
use Rattle.es_lowering.specs.Operators.{listed, or_else}
use Rattle.es_law_edits.specs.moved.Move.{Move, range_to, put}
use Rattle.es_law_edits.specs.moved.Leaves.{ident_to, tpl_element_to}
use Rattle.es_law_edits.proofs.moved.Rel.{Same, By, Opt, none, some, Each, end, next}
use Rattle.es_law_edits.proofs.moved_lowering.TypedMoves.{TypedMoves}

-- ---- tokens
abbrev pub token_to : Move → Token → Token
token_to m t = record { kind = t.kind; range = range_to m t.range; line_before = t.line_before; partner = t.partner }

-- a token of the old text, and the same one of the new text
pub record TokenMoves (m : Move) (ts : List Token) (t u : Token) : Type 0 where
  pub at : ℕ
  pub there : slice_get ts at ≡ Some t
  pub same : u ≡ token_to m t

-- what holds of two texts and their tokens
pub record Texts (m : Move) (x y : List ℕ) (ts us : List Token) : Type 0 where
  pub tokens : (n : ℕ) → slice_get us n ≡ option_map (token_to m) (slice_get ts n)
  pub front : m.place 0 ≡ 0
  pub slices : (n : ℕ) (t : Token) → slice_get ts n ≡ Some t
      → slice_range y (m.place t.range.start) (m.place t.range.end)
      ≡ put (m.other t.range) (slice_range x t.range.start t.range.end)
  pub privates : (n : ℕ) (t : Token) → slice_get ts n ≡ Some t
      → Opt (By (ident_to m)) (private_of x t) (private_of y (token_to m t))
  pub pieces : (n : ℕ) (t : Token) → slice_get ts n ≡ Some t
      → Opt (By (tpl_element_to m)) (piece_of x t) (piece_of y (token_to m t))
  pub shebangs : (n : ℕ) (t : Token) → slice_get ts n ≡ Some t → Opt Same (shebang_of x t) (shebang_of y (token_to m t))

pub kind_moves : {m : Move} {ts : List Token} {t u : Token} → TokenMoves m ts t u → u.kind ≡ t.kind
kind_moves h = ap (λ (t : Token). t.kind) h.same

pub place_moves : {m : Move} {ts : List Token} {t u : Token} → TokenMoves m ts t u → By (range_to m) t.range u.range
place_moves h = record { is = ap (λ (t : Token). t.range) h.same }

got : {m : Move} {ts : List Token} (n : ℕ) (o p : Option Token) → slice_get ts n ≡ o → p ≡ option_map (token_to m) o
    → Opt (TokenMoves m ts) o p
got {m = m} {ts = ts} n None p e f = subst (λ (q : Option Token). Opt (TokenMoves m ts) None q) (sym f) none
got {m = m} {ts = ts} n (Some t) p e f =
    subst (λ (q : Option Token). Opt (TokenMoves m ts) (Some t) q) (sym f)
    (some (record { at = n; there = e; same = refl }))

pub slice_get_moves : {m : Move} {x y : List ℕ} {ts us : List Token} → Texts m x y ts us → (n k : ℕ) → k ≡ n
    → Opt (TokenMoves m ts) (slice_get ts n) (slice_get us k)
slice_get_moves {m = m} {ts = ts} {us = us} told n k e =
    subst (λ (i : ℕ). Opt (TokenMoves m ts) (slice_get ts n) (slice_get us i)) (sym e)
    (got n (slice_get ts n) (slice_get us n) refl (told.tokens n))

-- ---- parts
pub data Moves (m : Move) : Value → Value → Type 0 where
  gone : Moves m absent absent
  over : Moves m nil nil
  pair : {v w p q : Value} → Moves m v w → Moves m p q → Moves m (more v p) (more w q)
  leaf : (n : ℕ) → Moves m (token n) (token n)
  made : (from to : ℕ) {t u : Typed} → TypedMoves m t u → Moves m (node from to t) (node from to u)

at_part : {m : Move} {p q : Value} (n : ℕ) → Moves m p q → Moves m (part p n) (part q n)
at_part n gone = gone
at_part n over = gone
at_part zero (pair h i) = h
at_part (suc n) (pair h i) = at_part n i
at_part n (leaf k) = gone
at_part n (made from to h) = gone

pub part_moves : {m : Move} {p q : Value} → Moves m p q → {n k : ℕ} → k ≡ n → Moves m (part p n) (part q k)
part_moves {m = m} {p = p} {q = q} h {n = n} {k = k} e =
    subst (λ (i : ℕ). Moves m (part p n) (part q i)) (sym e) (at_part n h)

pub as_group_moves : {m : Move} {p q : Value} → Moves m p q → Moves m (as_group p) (as_group q)
as_group_moves gone = over
as_group_moves over = over
as_group_moves (pair h i) = pair h i
as_group_moves (leaf n) = over
as_group_moves (made from to h) = over

pub first_of_moves : {m : Move} {p q : Value} → Moves m p q → first_of q ≡ first_of p
first_of_moves gone = refl
first_of_moves over = refl
first_of_moves (pair h i) = refl
first_of_moves (leaf n) = refl
first_of_moves (made from to h) = refl

pub behind_moves : {m : Move} {p q : Value} → Moves m p q → behind q ≡ behind p
behind_moves gone = refl
behind_moves over = refl
behind_moves (pair h i) = refl
behind_moves (leaf n) = refl
behind_moves (made from to h) = refl

pub is_there_moves : {m : Move} {p q : Value} → Moves m p q → is_there q ≡ is_there p
is_there_moves gone = refl
is_there_moves over = refl
is_there_moves (pair h i) = refl
is_there_moves (leaf n) = refl
is_there_moves (made from to h) = refl

pub typed_moves : {m : Move} {p q : Value} → Moves m p q → Opt (TypedMoves m) (typed p) (typed q)
typed_moves gone = none
typed_moves over = none
typed_moves (pair h i) = none
typed_moves (leaf n) = none
typed_moves (made from to h) = some h

-- ---- what may be there
pub two : {A B C : Type 0} (f : A → B → C) {a b : A} {c d : B} → a ≡ b → c ≡ d → f a c ≡ f b d
two f {a} {b} {c} {d} e g = ap (λ y. f y c) e ∙ ap (f b) g

pub opt_same : {A : Type 0} {o p : Option A} → p ≡ o → Opt Same o p
opt_same {o = None} e = subst (λ (q : Option _). Opt Same None q) (sym e) none
opt_same {o = Some a} e = subst (λ (q : Option _). Opt Same (Some a) q) (sym e) (some refl)

pub given_moves : {A B C D : Type 0} {R : A → C → Type 0} {S : B → D → Type 0} {o : Option A} {p : Option C}
    {f : A → Option B} {g : C → Option D} → Opt R o p → ((a : A) (c : C) → R a c → Opt S (f a) (g c))
    → Opt S (given o f) (given p g)
given_moves none h = none
given_moves (some e) h = h _ _ e

pub map_moves : {A B C D : Type 0} {R : A → C → Type 0} {S : B → D → Type 0} {o : Option A} {p : Option C}
    (f : A → B) (g : C → D) → Opt R o p → ((a : A) (c : C) → R a c → S (f a) (g c))
    → Opt S (option_map f o) (option_map g p)
map_moves f g none h = none
map_moves f g (some e) h = some (h _ _ e)

pub optional_moves : {A C : Type 0} {m : Move} {R : A → C → Type 0} {f : Value → ℕ → Option A}
    {g : Value → ℕ → Option C}
    {p q : Value} → ((v w : Value) → Moves m v w → (n k : ℕ) → k ≡ n → Opt R (f v n) (g w k)) → Moves m p q
    → Opt (Opt R) (optional f p) (optional g q)
optional_moves h gone = some none
optional_moves h over = some none
optional_moves h (pair i j) = map_moves _ _ (h _ _ (pair i j) 0 0 refl) (λ a c e. some e)
optional_moves h (leaf n) = some none
optional_moves h (made from to i) = some none

pub turns_moves : {A C : Type 0} {m : Move} {R : A → C → Type 0} {f : Value → Option A} {g : Value → Option C}
    {p q : Value} → ((v w : Value) → Moves m v w → Opt R (f v) (g w)) → Moves m p q
    → Opt (Each R) (turns f p) (turns g q)
turns_moves h gone = some end
turns_moves h over = some end
turns_moves h (pair i j) =
    given_moves (h _ _ (as_group_moves i)) (λ a c e. given_moves (turns_moves h j) (λ rest others es. some (next e es)))
turns_moves h (leaf n) = some end
turns_moves h (made from to i) = some end

pub option_list_moves : {A C : Type 0} {R : A → C → Type 0} {o : Option A} {p : Option C} → Opt R o p
    → Each R (option_list o) (option_list p)
option_list_moves none = end
option_list_moves (some e) = next e end

pub append_moves : {A C : Type 0} {R : A → C → Type 0} {s t : List A} {u v : List C} → Each R s u → Each R t v
    → Each R (s ++ t) (u ++ v)
append_moves end h = h
append_moves (next e i) h = next e (append_moves i h)

pub or_else_moves : {A C : Type 0} {R : A → C → Type 0} {o b : Option A} {p d : Option C} → Opt R o p → Opt R b d
    → Opt R (or_else o b) (or_else p d)
or_else_moves none h = h
or_else_moves (some e) h = some e

pub listed_moves : {A : Type 0} (rows : List (TokenKind × A)) {k l : TokenKind} → l ≡ k
    → Opt Same (listed rows k) (listed rows l)
listed_moves rows e = opt_same (ap (listed rows) e)

pub if_moves : {A C : Type 0} {R : A → C → Type 0} {b d : Bool} {o r : Option A} {p s : Option C} → d ≡ b → Opt R o p
    → Opt R r s → Opt R (if b then o else r) (if d then p else s)
if_moves {R = R} {b = b} {o = o} {r = r} {p = p} {s = s} e h i =
    subst (λ (c : Bool). Opt R (if b then o else r) (if c then p else s)) (sym e) (chosen b h i)
  where
    chosen : (b : Bool) → Opt R o p → Opt R r s → Opt R (if b then o else r) (if b then p else s)
    chosen true h i = h
    chosen false h i = i

pub three : {A B C D : Type 0} (f : A → B → C → D) {a b : A} {c d : B} {e g : C} → a ≡ b → c ≡ d → e ≡ g
    → f a c e ≡ f b d g
three f {a} {b} {c} {d} {e} {g} h i j = ap (λ y. f y c e) h ∙ (ap (λ y. f b y e) i ∙ ap (f b d) j)

pub opt_equal : {A : Type 0} {o p : Option A} → Opt Same o p → p ≡ o
opt_equal none = refl
opt_equal (some e) = ap Some e

-- what is the same on both sides
pub same : {A : Type 0} (a : A) → a ≡ a
same a = refl

pub if_any : {A C : Type 0} (R : A → C → Type 0) {b d : Bool} {o r : A} {p s : C} → d ≡ b → R o p → R r s
    → R (if b then o else r) (if d then p else s)
if_any R {b = b} {o = o} {r = r} {p = p} {s = s} e h i =
    subst (λ (c : Bool). R (if b then o else r) (if c then p else s)) (sym e) (chosen b)
  where
    chosen : (b : Bool) → R (if b then o else r) (if b then p else s)
    chosen true = h
    chosen false = i
