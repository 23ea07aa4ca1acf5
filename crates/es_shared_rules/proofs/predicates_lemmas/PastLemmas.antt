-- Behind the last token no predicate holds.
use Rattle.std.specs.Prelude.{List, Bool, true, false, None, ◌&&◌, ◌||◌}
use Rattle.std.proofs.Common.{◌≡◌, ℕ, ◌+◌, ◌≤◌, length, refl, arith}
use Rattle.es_token.specs.declared.token.Token.{Token}
use Rattle.grammar_theory.specs.Key.{keys_of, seen}
use Rattle.es_grammar.specs.types.Classes.{opens_static}
use Rattle.es_grammar.specs.types.Members.{opens_parameters}
use Rattle.es_lookahead.proofs.TokenLemmas.{seen_past}
use Rattle.es_grammar.specs.declared.rows.Context.{Context}
use Rattle.es_grammar.specs.Expressions.{opens_abstract_class}
use Rattle.es_grammar.specs.Functions.{opens_parameter_modifier, begins_method}
use Rattle.es_grammar.specs.Classes.{opens_modifier}
use Rattle.es_grammar.specs.Declarations.{opens_interface, opens_alias, opens_enum, opens_namespace, opens_module, opens_global, opens_declare}
use Rattle.es_shared_rules.specs.predicates.Named.{heads_typed}

and_false : (b : Bool) → false ≡ b && false
and_false true = refl
and_false false = refl

pub parameter_modifier_past : (c : Context) (ts : List Token) (at : ℕ) → length ts ≤ at
    → false ≡ opens_parameter_modifier c (keys_of ts) at
unfolding opens_parameter_modifier
parameter_modifier_past c ts at past =
    let none : None ≡ seen (keys_of ts) at = seen_past ts at past in rw (← none) (and_false c.in_constructor)

pub modifier_past : (ts : List Token) (at : ℕ) → length ts ≤ at → false ≡ opens_modifier (keys_of ts) at
unfolding opens_modifier opens_static
modifier_past ts at past = let none : None ≡ seen (keys_of ts) at = seen_past ts at past in rw (← none) refl

pub method_past : (ts : List Token) (at : ℕ) → length ts ≤ at → false ≡ begins_method (keys_of ts) (at + 1)
unfolding opens_parameters
method_past ts at past =
    let none : None ≡ seen (keys_of ts) (at + 1) = seen_past ts (at + 1) (omega arith) in rw (← none) refl

pub typed_past : (ts : List Token) (at : ℕ) → length ts ≤ at → false ≡ heads_typed (keys_of ts) (at + 1)
unfolding opens_interface opens_alias opens_enum opens_namespace opens_module opens_global opens_declare
    opens_abstract_class
typed_past ts at past =
    let none : None ≡ seen (keys_of ts) (at + 1) = seen_past ts (at + 1) (omega arith) in rw (← none) refl
