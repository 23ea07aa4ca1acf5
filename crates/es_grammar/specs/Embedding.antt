-- A table inside a table: a rule whose rows and alternatives are named by those of the outer table. So the types of
-- TypeScript are in the table of programs as they are in their own.
use Rattle.std.specs.Prelude.{leb, Bool, true, false, ◌&&◌, ◌||◌, List, if◌then◌else◌}
use Rattle.es_token.specs.declared.token.TokenKind.TheVariants as k
use Rattle.grammar_theory.specs.declared.error.Lang.{Lang}
use Rattle.grammar_theory.specs.Languages.{typed}
use Rattle.grammar_theory.specs.Key.{Key, TokenTest, seen, is}
use Rattle.grammar_theory.specs.Productions.{greedy, Predicate, Rhs, done, tok, punct, row, opt, many, alt, when_, where_, Production, refuse, make, choose, as_, pick, wrap}
use Rattle.grammar_theory.specs.Plain.{Plain, plain, none_leans, tall}
use Rattle.grammar_theory.specs.Fits.{most_nodes}
use Rattle.grammar_theory.specs.Reader.{Out, nothing, gives, read_row}
use Rattle.es_grammar.specs.types.TypeNames.{begins_angle}
use Rattle.es_grammar.specs.types.TypeRows as table
use Rattle.es_grammar.specs.declared.types.rows.TypeRow.{TypeRow}
use Rattle.es_grammar.specs.declared.types.rows.TypeRow.TheVariants as types
use Rattle.es_grammar.specs.TypeNames.{label_name}
use Rattle.es_grammar.specs.types.TypeTable.{type_rule}
use Rattle.es_grammar.specs.declared.rows.Row.{Row}
use Rattle.es_grammar.specs.declared.rows.NodeKind.{NodeKind}
use Rattle.es_grammar.specs.declared.rows.Row.TheVariants.{TypesRow}

-- ---- mapped rules

-- the form with its rows named so
abbrev pub mapped_form : {A B : Type 0} → (A → B) → Rhs A → Rhs B
mapped_form f done = done
mapped_form f (tok s may g) = tok s may (mapped_form f g)
mapped_form f (punct k g) = punct k (mapped_form f g)
mapped_form f (row r g) = row (f r) (mapped_form f g)
mapped_form f (opt c g h) = opt c (mapped_form f g) (mapped_form f h)
mapped_form f (many c g h) = many c (mapped_form f g) (mapped_form f h)
mapped_form f (alt t a b g) = alt t (mapped_form f a) (mapped_form f b) (mapped_form f g)
mapped_form f (when_ t g) = when_ t (mapped_form f g)
mapped_form f (where_ t g) = where_ t (mapped_form f g)

-- the rule with its rows and its alternatives named so
abbrev pub mapped_rule : {A B L M : Type 0} → (A → B) → (L → M) → Production A L → Production B M
mapped_rule f w refuse = refuse
mapped_rule f w (make l g) = make (w l) (mapped_form f g)
mapped_rule f w (choose t a b) = choose t (mapped_rule f w a) (mapped_rule f w b)
mapped_rule f w (as_ l a) = as_ (w l) (mapped_rule f w a)
mapped_rule f w (pick g a b) = pick g (mapped_rule f w a) (mapped_rule f w b)
mapped_rule f w (wrap l a c g) = wrap (w l) (mapped_rule f w a) c (mapped_form f g)

-- ---- rows of the table of types

-- a rule of the table of types, in this one
abbrev pub types_rule : Production TypeRow table.NodeKind → Production Row NodeKind
types_rule a = mapped_rule TypesRow label_name a

-- the alternative; with types another one, where its parts differ then
abbrev pub label_by : Lang → NodeKind → NodeKind → NodeKind
label_by l one other = if typed l then other else one

-- ---- parts that hold types

-- a part of TypeScript alone, and what stands behind it
abbrev pub typed_in : Lang → (Rhs Row → Rhs Row) → Rhs Row → Rhs Row
typed_in l part f = if typed l then part f else f

-- a rule that has alternatives of TypeScript alone before the others
abbrev pub typed_before : Lang → (Production Row NodeKind → Production Row NodeKind) → Production Row NodeKind
    → Production Row NodeKind
typed_before l part a = if typed l then part a else a

-- a type, and what stands behind it
abbrev pub type_then : Rhs Row → Rhs Row
type_then f = row (TypesRow (types.TypeRow true)) f

-- (':' Type)?, and what stands behind it
unfoldable pub annotation_in : Rhs Row → Rhs Row
annotation_in f = opt (greedy (is k.Colon)) (punct k.Colon (type_then done)) f

-- (':' Ret)?
unfoldable pub result_in : Rhs Row → Rhs Row
result_in f = opt (greedy (is k.Colon)) (punct k.Colon (row (TypesRow (types.ResultRow true)) done)) f

-- TParams?
unfoldable pub type_parameters_in : Rhs Row → Rhs Row
type_parameters_in f = opt (greedy (is k.Less)) (row (TypesRow types.TypeParametersRow) done) f

-- TArgs?
unfoldable pub type_arguments_in : Rhs Row → Rhs Row
type_arguments_in f = opt (greedy begins_angle) (row (TypesRow types.ArgumentsRow) done) f

-- ---- where type arguments and type parameters can be read

-- a tree of at most 500 nodes on a path was read, and the predicate holds behind it
abbrev pub ends_before : Predicate → List Key → Out (Plain table.NodeKind) → Bool
ends_before g K nothing = false
ends_before g K (gives p to) = leb (tall none_leans p) 500 && g K to

-- the row of types can be read here, and the predicate holds behind it
abbrev pub reads_before : TypeRow → Predicate → Predicate
reads_before r g K at = ends_before g K (read_row plain K type_rule most_nodes r at)

-- `(` or the start of a template
unfoldable pub begins_call : TokenTest
begins_call x = is k.OpenParen x || (is k.TemplateWhole x || is k.TemplateHead x)

unfoldable pub stands_call : Predicate
stands_call K at = begins_call (seen K at)

-- `<` or `<<` after an expression opens type arguments exactly where they can be read there and `(` or a template
-- follows
unfoldable pub opens_call_arguments : Predicate
opens_call_arguments K at = begins_angle (seen K at) && reads_before types.ArgumentsRow stands_call K at

-- behind `extends` also where `{` or `implements` follows
unfoldable pub stands_heritage : Predicate
stands_heritage K at =
    begins_call (seen K at) || (is k.OpenBrace (seen K at) || is k.ImplementsWord (seen K at))

unfoldable pub opens_heritage_arguments : Predicate
opens_heritage_arguments K at = begins_angle (seen K at) && reads_before types.ArgumentsRow stands_heritage K at
