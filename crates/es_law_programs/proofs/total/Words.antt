-- Kinds of tokens that are asked for, and what is there where they are.
use Rattle.std.specs.Prelude.{Bool, true, false, ◌||◌, List, Option, Some, None, option_map, if◌then◌else◌}
use Rattle.std.proofs.Common.{◌≡◌, ℕ, refl}
use Rattle.base.specs.declared.range.Range.{Range}
use Rattle.es_token.specs.declared.token.Token.{Token}
use Rattle.es_token.specs.declared.token.TokenKind.{TokenKind}
use Rattle.es_token.specs.declared.token.TokenKind.TheVariants as k
use Rattle.grammar_theory.specs.Key.{same_kind}
use Rattle.grammar_theory.proofs.OutLemmas.{clash}
use Rattle.es_lowering.specs.Value.{given}
use Rattle.es_lowering.specs.Texts.{numeric_of, private_of, piece_of, stop_of, shebang_of, property_of}
use Rattle.es_lowering.specs.Operators.{listed, unary_ops, update_ops, variable_kinds, accessor_kinds}
use Rattle.es_lowering.specs.Expressions as exprs
use Rattle.es_lowering.specs.TypeTexts.{keyword_kinds, type_operators, signs, numeric_lit, computed_numeric}
use Rattle.es_lowering.specs.Types as types
use Rattle.es_law_programs.proofs.total.Uses.{IsThere}
use Rattle.es_law_programs.proofs.total.Needs.{HasKind, some}

-- ---- what is there
pub given_there : {A B : Type 0} (o : Option A) (f : A → Option B) → IsThere o → ((a : A) → IsThere (f a))
    → IsThere (given o f)
given_there (Some a) f here next = next a
given_there None f here next = absurd here

pub map_there : {A B : Type 0} (o : Option A) (f : A → B) → IsThere o → IsThere (option_map f o)
map_there (Some a) f here = tt
map_there None f here = absurd here

pub there_of : {A : Type 0} (o : Option A) → some o ≡ true → IsThere o
there_of (Some a) e = tt
there_of None e = clash e

pub if_there : {A : Type 0} (b : Bool) (o e : Option A) → (b ≡ true → IsThere o) → (b ≡ false → IsThere e)
    → IsThere (if b then o else e)
if_there true o e one other = one refl
if_there false o e one other = other refl

pub rest_true : (a b : Bool) → a || b ≡ true → a ≡ false → b ≡ true
rest_true true b e f = absurd (let bad : ⊥ = cc in bad)
rest_true false b e f = e

pub not_both : {X : Type 0} (a : Bool) → a ≡ true → a ≡ false → X
not_both a e f = absurd (let bad : ⊥ = cc in bad)

-- ---- kinds
abbrev pub is_unary : TokenKind → Bool
is_unary kind = some (listed unary_ops kind)

abbrev pub is_update_op : TokenKind → Bool
is_update_op kind = some (listed update_ops kind)

abbrev pub is_variable : TokenKind → Bool
is_variable kind = some (listed variable_kinds kind)

abbrev pub is_accessor : TokenKind → Bool
is_accessor kind = some (listed accessor_kinds kind)

abbrev pub is_type_op : TokenKind → Bool
is_type_op kind = some (listed type_operators kind)

abbrev pub is_keyword : TokenKind → Bool
is_keyword kind = some (listed keyword_kinds kind)

abbrev pub is_sign_op : TokenKind → Bool
is_sign_op kind = some (listed signs kind)

abbrev pub is_numeral : TokenKind → Bool
is_numeral kind = same_kind kind k.Number || same_kind kind k.BigInt

abbrev pub is_private : TokenKind → Bool
is_private kind = same_kind kind k.PrivateName

abbrev pub is_shebang : TokenKind → Bool
is_shebang kind = same_kind kind k.Shebang

abbrev pub is_piece : TokenKind → Bool
is_piece kind = some (stop_of kind)

abbrev pub is_word_value : TokenKind → Bool
is_word_value kind =
    same_kind kind k.ThisWord ||
    (same_kind kind k.NullWord || (same_kind kind k.TrueWord || same_kind kind k.FalseWord))

abbrev pub is_type_word_value : TokenKind → Bool
is_type_word_value kind =
    same_kind kind k.TrueWord || (same_kind kind k.FalseWord || some (listed keyword_kinds kind))

-- ---- tokens of these kinds
pub kind_there : (may : TokenKind → Bool) (o : Option Token) → HasKind may o → IsThere o
kind_there may (Some t) h = tt
kind_there may None h = absurd h

pub listed_there : {A : Type 0} (ops : List (TokenKind × A)) (o : Option Token)
    → HasKind (λ kind. some (listed ops kind)) o
    → IsThere (given (option_map (λ (t : Token). t.kind) o) (listed ops))
listed_there ops (Some t) h = there_of (listed ops t.kind) h
listed_there ops None h = absurd h

word_kind : (r : Range) (kind : TokenKind) → is_word_value kind ≡ true → IsThere (exprs.word_of r kind)
unfolding exprs.word_of
word_kind r kind e =
    if_there (same_kind kind k.ThisWord) _ _ (λ this. tt) (λ no_this.
    let one = rest_true (same_kind kind k.ThisWord) (same_kind kind k.NullWord || (same_kind kind k.TrueWord
    || same_kind kind k.FalseWord)) e no_this in
    if_there (same_kind kind k.NullWord) _ _ (λ null. tt) (λ no_null.
    let two = rest_true (same_kind kind k.NullWord) (same_kind kind k.TrueWord || same_kind kind k.FalseWord) one
    no_null in
    if_there (same_kind kind k.TrueWord) _ _ (λ yes. tt) (λ no_true.
    let three = rest_true (same_kind kind k.TrueWord) (same_kind kind k.FalseWord) two no_true in
    if_there (same_kind kind k.FalseWord) _ _ (λ no. tt) (λ other. not_both (same_kind kind k.FalseWord) three other))))

pub word_found : (r : Range) (o : Option Token) → HasKind is_word_value o
    → IsThere (given (option_map (λ (t : Token). t.kind) o) (exprs.word_of r))
word_found r (Some t) h = word_kind r t.kind h
word_found r None h = absurd h

type_word_kind : (r : Range) (kind : TokenKind) → is_type_word_value kind ≡ true → IsThere (types.word_of r kind)
unfolding types.word_of
type_word_kind r kind e =
    if_there (same_kind kind k.TrueWord) _ _ (λ yes. tt) (λ no_true.
    let one = rest_true (same_kind kind k.TrueWord) (same_kind kind k.FalseWord || some (listed keyword_kinds kind)) e
    no_true in
    if_there (same_kind kind k.FalseWord) _ _ (λ no. tt) (λ no_false.
    map_there (listed keyword_kinds kind) _ (there_of (listed keyword_kinds kind)
    (rest_true (same_kind kind k.FalseWord) (some (listed keyword_kinds kind)) one no_false))))

pub type_word_found : (r : Range) (o : Option Token) → HasKind is_type_word_value o
    → IsThere (given (option_map (λ (t : Token). t.kind) o) (types.word_of r))
type_word_found r (Some t) h = type_word_kind r t.kind h
type_word_found r None h = absurd h

pub numeric_found : (x : List ℕ) (o : Option Token) → HasKind is_numeral o → IsThere (given o (numeric_of x))
unfolding numeric_of
numeric_found x (Some t) h =
    if_there (same_kind t.kind k.Number) _ _ (λ number. tt) (λ no.
    if_there (same_kind t.kind k.BigInt) _ _ (λ big. tt) (λ other.
    not_both (same_kind t.kind k.BigInt) (rest_true (same_kind t.kind k.Number) (same_kind t.kind k.BigInt) h no)
    other))
numeric_found x None h = absurd h

pub number_lit_found : (x : List ℕ) (minus : Bool) (r : Range) (o : Option Token) → HasKind is_numeral o
    → IsThere (given o (numeric_lit x minus r))
unfolding numeric_lit
number_lit_found x minus r (Some t) h =
    if_there (same_kind t.kind k.Number) _ _ (λ number. tt) (λ no.
    if_there (same_kind t.kind k.BigInt) _ _ (λ big. tt) (λ other.
    not_both (same_kind t.kind k.BigInt) (rest_true (same_kind t.kind k.Number) (same_kind t.kind k.BigInt) h no)
    other))
number_lit_found x minus r None h = absurd h

pub computed_found : (x : List ℕ) (r : Range) (o : Option Token) → HasKind is_numeral o
    → IsThere (given o (computed_numeric x r))
unfolding computed_numeric
computed_found x r (Some t) h =
    if_there (same_kind t.kind k.Number) _ _ (λ number. tt) (λ no.
    if_there (same_kind t.kind k.BigInt) _ _ (λ big. tt) (λ other.
    not_both (same_kind t.kind k.BigInt) (rest_true (same_kind t.kind k.Number) (same_kind t.kind k.BigInt) h no)
    other))
computed_found x r None h = absurd h

private_kind : (x : List ℕ) (t : Token) → same_kind t.kind k.PrivateName ≡ true → IsThere (private_of x t)
unfolding private_of
private_kind x t e =
    if_there (same_kind t.kind k.PrivateName) _ _ (λ yes. tt) (λ no. not_both (same_kind t.kind k.PrivateName) e no)

pub private_found : (x : List ℕ) (o : Option Token) → HasKind is_private o → IsThere (given o (private_of x))
private_found x (Some t) h = private_kind x t h
private_found x None h = absurd h

pub property_found : (x : List ℕ) (o : Option Token) → IsThere o → IsThere (given o (property_of x))
unfolding property_of
property_found x (Some t) h =
    if_there (same_kind t.kind k.PrivateName) _ _ (λ yes. map_there (private_of x t) _ (private_kind x t yes))
    (λ no. tt)
property_found x None h = absurd h

pub piece_found : (x : List ℕ) (o : Option Token) → HasKind is_piece o → IsThere (given o (piece_of x))
unfolding piece_of
piece_found x (Some t) h = map_there (stop_of t.kind) _ (there_of (stop_of t.kind) h)
piece_found x None h = absurd h

pub shebang_found : (x : List ℕ) (o : Option Token) → HasKind is_shebang o → IsThere (given o (shebang_of x))
unfolding shebang_of
shebang_found x (Some t) h =
    if_there (same_kind t.kind k.Shebang) _ _ (λ yes. tt) (λ no. not_both (same_kind t.kind k.Shebang) h no)
shebang_found x None h = absurd h
