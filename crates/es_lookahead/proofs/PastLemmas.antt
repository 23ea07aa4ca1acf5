-- Behind the last token no predicate holds.
use Rattle.std.specs.Prelude.{List, Bool, true, false, ◌&&◌, ◌||◌}
use Rattle.std.proofs.Common.{◌≡◌, ℕ, ◌+◌, ◌≤◌, length, refl, sym, arith}
use Rattle.std.proofs.lemmas.Option.{slice_get_past}
use Rattle.es_token.specs.declared.token.Token.{Token}
use Rattle.es_token.specs.declared.token.TokenKind.{TokenKind}
use Rattle.es_token.specs.declared.token.TokenKind.TheVariants as k
use Rattle.grammar_theory.specs.declared.error.Lang.{Lang}
use Rattle.grammar_theory.specs.Key.{keys_of, seen, is, has_kind}
use Rattle.es_grammar.specs.types.Expressions.{opens_async_function}
use Rattle.es_grammar.specs.types.Statements.{is_variable_word, opens_using, opens_for}
use Rattle.es_grammar.specs.types.Modules.{behind_type, opens_type_import, opens_type_export, opens_equals, shows_require, opens_require, opens_all, opens_exported_equals, opens_exported_require}
use Rattle.es_grammar.specs.types.Items.{opens_default_function, opens_declaration}
use Rattle.es_lookahead.proofs.TokenLemmas.{look_past, partner_none}

-- one of two that hold together fails
pub and_left : (a b : Bool) → false ≡ a → false ≡ a && b
and_left true b e = absurd (let bad : ⊥ = cc in bad)
and_left false b e = refl

-- both fail
pub or_both : (a b : Bool) → false ≡ a → false ≡ b → false ≡ a || b
or_both true b one two = one
or_both false b one two = two

is_past : (kind : TokenKind) (ts : List Token) (at : ℕ) → length ts ≤ at → false ≡ is kind (seen (keys_of ts) at)
is_past kind ts at past = look_past (is kind) ts at past

pub async_function_past : (ts : List Token) (at : ℕ) → length ts ≤ at → false ≡ opens_async_function (keys_of ts) at
unfolding opens_async_function
async_function_past ts at past = and_left _ _ (is_past k.AsyncWord ts at past)

using_past : (ts : List Token) (at : ℕ) → length ts ≤ at → false ≡ opens_using (keys_of ts) at
unfolding opens_using
using_past ts at past =
    or_both _ _ (and_left _ _ (is_past k.UsingWord ts at past)) (and_left _ _ (is_past k.AwaitWord ts at past))

pub default_function_past : (ts : List Token) (at : ℕ) → length ts ≤ at → false ≡ opens_default_function (keys_of ts) at
unfolding opens_default_function
default_function_past ts at past =
    or_both _ _ (is_past k.FunctionWord ts (at + 2) (omega arith)) (async_function_past ts (at + 2) (omega arith))

pub declaration_past : (ts : List Token) (at : ℕ) → length ts ≤ at → false ≡ opens_declaration (keys_of ts) at
unfolding opens_declaration
declaration_past ts at past =
    let behind : length ts ≤ at + 1 = omega arith in
    or_both _ _ (look_past (has_kind is_variable_word) ts (at + 1) behind)
    (or_both _ _ (is_past k.FunctionWord ts (at + 1) behind)
    (or_both _ _ (is_past k.ClassWord ts (at + 1) behind)
    (or_both _ _ (async_function_past ts (at + 1) behind) (using_past ts (at + 1) behind))))

shows_past : (ts : List Token) (at : ℕ) → length ts ≤ at → false ≡ shows_require (keys_of ts) at
unfolding shows_require
shows_past ts at past = and_left _ _ (is_past k.RequireWord ts at past)

behind_past : (b : Bool) (ts : List Token) (at : ℕ) → length ts ≤ at → length ts ≤ behind_type b at
behind_past true ts at past = omega arith
behind_past false ts at past = past

pub require_past : (l : Lang) (ts : List Token) (at : ℕ) → length ts ≤ at → false ≡ opens_require l (keys_of ts) at
unfolding opens_require
require_past l ts at past =
    let name = behind_past (opens_type_import l (keys_of ts) (at + 1)) ts (at + 1) (omega arith) in
    shows_past ts (behind_type (opens_type_import l (keys_of ts) (at + 1)) (at + 1) + 2) (omega arith)

pub all_past : (l : Lang) (ts : List Token) (at : ℕ) → length ts ≤ at → false ≡ opens_all l (keys_of ts) at
unfolding opens_all
all_past l ts at past =
    is_past k.Star ts (behind_type (opens_type_export l (keys_of ts) (at + 1)) (at + 1))
    (behind_past (opens_type_export l (keys_of ts) (at + 1)) ts (at + 1) (omega arith))

equals_past : (l : Lang) (ts : List Token) (at : ℕ) → length ts ≤ at → false ≡ opens_equals l (keys_of ts) at
unfolding opens_equals
equals_past l ts at past = and_left _ _ (is_past k.ImportWord ts at past)

pub exported_equals_past : (l : Lang) (ts : List Token) (at : ℕ) → length ts ≤ at
    → false ≡ opens_exported_equals l (keys_of ts) at
unfolding opens_exported_equals
exported_equals_past l ts at past = equals_past l ts (at + 1) (omega arith)

pub exported_require_past : (l : Lang) (ts : List Token) (at : ℕ) → length ts ≤ at
    → false ≡ opens_exported_require l (keys_of ts) at
unfolding opens_exported_require
exported_require_past l ts at past = require_past l ts (at + 1) (omega arith)

pub for_past : (ts : List Token) (at : ℕ) → length ts ≤ at → false ≡ opens_for (keys_of ts) at
unfolding opens_for
for_past ts at past =
    rw (← (partner_none ts (at + 1) (sym (slice_get_past ts (at + 1) (omega arith))))) refl
