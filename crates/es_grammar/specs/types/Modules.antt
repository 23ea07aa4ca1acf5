-- Imports, and exports of names (ECMA-262, "Imports" and "Exports"; the handbook of TypeScript, "Modules").
use Rattle.std.specs.Prelude.{ℕ, ◌+◌, Bool, true, false, not, ◌&&◌, ◌||◌}
use Rattle.es_token.specs.declared.token.TokenKind.TheVariants as k
use Rattle.grammar_theory.specs.declared.error.Lang.{Lang}
use Rattle.grammar_theory.specs.Languages.{typed}
use Rattle.grammar_theory.specs.Key.{TokenTest, seen, has_kind, is, is_end, is_after_line}
use Rattle.grammar_theory.specs.Productions.{as_str, as_name, as_there, by_lookahead, greedy, by_predicate, Predicate, Rhs, done, tok, punct, row, opt, many, alt, when_, where_, Production, make, choose, pick}
use Rattle.es_grammar.specs.types.Words.{only, is_name, is_word, is_name_or_this, is_other}
use Rattle.es_grammar.specs.declared.rows.Row.{Row}
use Rattle.es_grammar.specs.declared.rows.Row.TheVariants.{ClauseRow, NamedRow, ImportSpecifierRow, ExportSpecifierRow, AttributesRow, EntityRow}
use Rattle.es_grammar.specs.declared.rows.NodeKind.{NodeKind}
use Rattle.es_grammar.specs.declared.rows.NodeKind.TheVariants.{BareImport, FromImport, SourceImport, DeferImport, RequireImport, EntityImport, ExportedRequireImport, ExportedEntityImport, DefaultClause, DefaultAndClause, Namespace, NamedImports, RenamedImport, ImportedName, ExportAll, ExportNames, ExportNamespace, ExportedName, Attributes, Entity}

-- before END: a `;`, or `}`, or the end, or a token on a new line
unfoldable pub may_end : TokenTest
may_end x = is k.Semicolon x || (is k.CloseBrace x || (is_end x || is_after_line x))

-- END: a `;`, which is taken where it is there (ECMA-262, "Automatic Semicolon Insertion")
unfoldable pub ended : Rhs Row
ended = when_ may_end (opt (greedy (is k.Semicolon)) (punct k.Semicolon done) done)

-- a word or a string literal, and what stands behind it
unfoldable pub word_or_str_in : Rhs Row → Rhs Row
word_or_str_in f = alt (is k.Str) (tok as_str (only k.Str) done) (tok as_name is_word done) f

-- X%: a comma list, possibly empty, with an optional last comma, before `}`
unfoldable pub names_in : Row → Rhs Row → Rhs Row
names_in r f =
    many (by_lookahead (is_other k.CloseBrace)) (row r (opt (greedy (is_other k.CloseBrace)) (punct k.Comma done) done)) f

-- ---- attributes

-- Attrs: 'with' '{' ((Word | Str) ':' Str)% '}'
unfoldable pub attributes : Production Row NodeKind
attributes =
    make Attributes (punct k.WithWord (punct k.OpenBrace
    (many (by_lookahead (is_other k.CloseBrace))
    (word_or_str_in (punct k.Colon (tok as_str (only k.Str)
    (opt (greedy (is_other k.CloseBrace)) (punct k.Comma done) done))))
    (punct k.CloseBrace done))))

-- Attrs? END
unfoldable pub attributes_ended : Rhs Row
attributes_ended = opt (greedy (is k.WithWord)) (row AttributesRow done) ended

-- 'from' Str Attrs? END
unfoldable pub from_ended : Rhs Row
from_ended = punct k.FromWord (tok as_str (only k.Str) attributes_ended)

-- ---- what an import binds

-- in TypeScript `type` is a modifier of an import before `{`, `*` or a name, except `from` with a Str after it
unfoldable pub opens_type_import : Lang → Predicate
opens_type_import l K at =
    typed l && (is k.TypeWord (seen K at) && (is k.OpenBrace (seen K (at + 1)) || (is k.Star (seen K (at + 1))
    || (has_kind is_name (seen K (at + 1))
    && not (is k.FromWord (seen K (at + 1)) && is k.Str (seen K (at + 2)))))))

-- in a specifier it is one before any word or Str but `as`
unfoldable pub opens_type_name : Lang → Predicate
opens_type_name l K at =
    typed l && (is k.TypeWord (seen K at) && (is k.Str (seen K (at + 1))
    || (has_kind is_word (seen K (at + 1)) && is_other k.AsWord (seen K (at + 1)))))

-- 'type'?, and what stands behind it
unfoldable pub type_word_in : Predicate → Rhs Row → Rhs Row
type_word_in g f = opt (by_predicate g) (tok as_there (only k.TypeWord) done) f

-- a name or Str before `as`, behind the modifier `type` too
unfoldable pub is_renamed : Lang → Predicate
is_renamed l K at =
    (opens_type_name l K at && is k.AsWord (seen K (at + 2)))
    || (not (opens_type_name l K at) && is k.AsWord (seen K (at + 1)))

-- `type as` names `type`, and its second name isn't `as`
unfoldable pub is_no_type_as_as : Predicate
is_no_type_as_as K at =
    not (is k.TypeWord (seen K at) && (is k.AsWord (seen K (at + 1)) && is k.AsWord (seen K (at + 2))))

-- Spec: 'type'? (Word | Str) 'as' Name | 'type'? Name
unfoldable pub import_specifier : Lang → Production Row NodeKind
import_specifier l =
    pick (is_renamed l)
    (make RenamedImport (where_ is_no_type_as_as (type_word_in (opens_type_name l)
    (word_or_str_in (punct k.AsWord (tok as_name is_name done))))))
    (make ImportedName (type_word_in (opens_type_name l) (tok as_name is_name done)))

-- Named: '*' 'as' Name | '{' Spec% '}'
unfoldable pub named : Production Row NodeKind
named =
    choose (is k.Star) (make Namespace (punct k.Star (punct k.AsWord (tok as_name is_name done))))
    (make NamedImports (punct k.OpenBrace (names_in ImportSpecifierRow (punct k.CloseBrace done))))

-- a name before ','
unfoldable pub has_comma : Predicate
has_comma K at = is k.Comma (seen K (at + 1))

-- Clause: Name | Name ',' Named | Named
unfoldable pub clause : Production Row NodeKind
clause =
    choose (has_kind is_name)
    (pick has_comma (make DefaultAndClause (tok as_name is_name (punct k.Comma (row NamedRow done))))
    (make DefaultClause (tok as_name is_name done))) named

-- ---- imports

-- Entity: (Name | 'this') ('.' Name)*
unfoldable pub entity : Production Row NodeKind
entity =
    make Entity (tok as_name is_name_or_this (many (greedy (is k.Dot)) (punct k.Dot (tok as_name is_name done)) done))

-- the place behind the modifier `type`
abbrev pub behind_type : Bool → ℕ → ℕ
behind_type true at = at + 1
behind_type false at = at

-- a name before `=`, behind the modifier `type` too
abbrev pub names_before_equal : Lang → Predicate
names_before_equal l K at =
    typed l && (has_kind is_name (seen K (behind_type (opens_type_import l K at) at))
    && is k.Equal (seen K (behind_type (opens_type_import l K at) at + 1)))

-- `import` before such a name
unfoldable pub opens_equals : Lang → Predicate
opens_equals l K at = is k.ImportWord (seen K at) && names_before_equal l K (at + 1)

-- behind the `=` of an import, `require` before `(` is no Entity
unfoldable pub shows_require : Predicate
shows_require K at = is k.RequireWord (seen K at) && is k.OpenParen (seen K (at + 1))

-- the place behind `import`, the modifier, the name and the `=`
unfoldable pub opens_require : Lang → Predicate
opens_require l K at = shows_require K (behind_type (opens_type_import l K (at + 1)) (at + 1) + 2)

-- 'import' 'type'? Name '=', and what stands behind it
unfoldable pub equals_in : Lang → Rhs Row → Rhs Row
equals_in l f =
    punct k.ImportWord (type_word_in (opens_type_import l) (tok as_name is_name (punct k.Equal f)))

-- 'require' '(' Str ')' END
unfoldable pub required : Rhs Row
required = punct k.RequireWord (punct k.OpenParen (tok as_str (only k.Str) (punct k.CloseParen ended)))

-- `import` before a Str
unfoldable pub opens_bare : Predicate
opens_bare K at = is k.Str (seen K (at + 1))

-- directly behind `import`, `source` is the phase before a name, except `from` with a Str after it
unfoldable pub opens_source_import : Predicate
opens_source_import K at =
    is k.SourceWord (seen K (at + 1)) && (has_kind is_name (seen K (at + 2))
    && not (is k.FromWord (seen K (at + 2)) && is k.Str (seen K (at + 3))))

-- there `defer` is the phase before `*`
unfoldable pub opens_defer_import : Predicate
opens_defer_import K at = is k.DeferWord (seen K (at + 1)) && is k.Star (seen K (at + 2))

-- 'import' 'source' Name 'from' Str Attrs? END
unfoldable pub source_import : Production Row NodeKind
source_import = make SourceImport (punct k.ImportWord (punct k.SourceWord (tok as_name is_name from_ended)))

-- 'import' 'defer' '*' 'as' Name 'from' Str Attrs? END
unfoldable pub defer_import : Production Row NodeKind
defer_import =
    make DeferImport (punct k.ImportWord (punct k.DeferWord (punct k.Star (punct k.AsWord (tok as_name is_name
    from_ended)))))

-- Import: 'import' Str Attrs? END | 'import' 'type'? Clause 'from' Str Attrs? END
--         | TS 'import' 'type'? Name '=' ('require' '(' Str ')' | Entity) END
--         | 'import' 'source' Name 'from' Str Attrs? END
--         | 'import' 'defer' '*' 'as' Name 'from' Str Attrs? END
unfoldable pub import_ : Lang → Production Row NodeKind
import_ l =
    pick (opens_equals l)
    (pick (opens_require l) (make RequireImport (equals_in l required))
    (make EntityImport (equals_in l (row EntityRow ended))))
    (pick opens_bare
    (make BareImport (punct k.ImportWord (tok as_str (only k.Str) attributes_ended)))
    (pick opens_source_import source_import
    (pick opens_defer_import defer_import
    (make FromImport (punct k.ImportWord (type_word_in (opens_type_import l) (row ClauseRow from_ended)))))))

-- ---- exports

-- XSpec: 'type'? (Word | Str) ('as' (Word | Str))?
unfoldable pub export_specifier : Lang → Production Row NodeKind
export_specifier l =
    make ExportedName (where_ is_no_type_as_as (type_word_in (opens_type_name l)
    (word_or_str_in (opt (greedy (is k.AsWord)) (punct k.AsWord (word_or_str_in done)) done))))

-- in TypeScript `type` behind `export` is the modifier before `{` or `*`
unfoldable pub opens_type_export : Lang → Predicate
opens_type_export l K at =
    typed l && (is k.TypeWord (seen K at) && (is k.OpenBrace (seen K (at + 1)) || is k.Star (seen K (at + 1))))

-- `export` before `*`, behind the modifier too
unfoldable pub opens_all : Lang → Predicate
opens_all l K at = is k.Star (seen K (behind_type (opens_type_export l K (at + 1)) (at + 1)))

-- `export` before such an import
unfoldable pub opens_exported_equals : Lang → Predicate
opens_exported_equals l K at = opens_equals l K (at + 1)

unfoldable pub opens_exported_require : Lang → Predicate
opens_exported_require l K at = opens_require l K (at + 1)

-- in TypeScript `export as namespace`
unfoldable pub opens_namespace : Lang → Predicate
opens_namespace l K at = typed l && is k.AsWord (seen K (at + 1))

-- Export: 'export' 'type'? '*' ('as' (Word | Str))? 'from' Str Attrs? END
--         | 'export' 'type'? '{' XSpec% '}' ('from' Str Attrs?)? END | TS 'export' 'as' 'namespace' Name END
--         and of Import: TS 'export' 'import' 'type'? Name '=' ('require' '(' Str ')' | Entity) END
unfoldable pub export_ : Lang → Production Row NodeKind
export_ l =
    pick (opens_exported_equals l)
    (pick (opens_exported_require l) (make ExportedRequireImport (punct k.ExportWord (equals_in l required)))
    (make ExportedEntityImport (punct k.ExportWord (equals_in l (row EntityRow ended)))))
    (pick (opens_namespace l)
    (make ExportNamespace (punct k.ExportWord (punct k.AsWord (punct k.NamespaceWord (tok as_name is_name ended)))))
    (pick (opens_all l)
    (make ExportAll (punct k.ExportWord (type_word_in (opens_type_export l) (punct k.Star
    (opt (greedy (is k.AsWord)) (punct k.AsWord (word_or_str_in done)) from_ended)))))
    (make ExportNames (punct k.ExportWord (type_word_in (opens_type_export l) (punct k.OpenBrace
    (names_in ExportSpecifierRow (punct k.CloseBrace
    (opt (greedy (is k.FromWord)) (punct k.FromWord (tok as_str (only k.Str)
    (opt (greedy (is k.WithWord)) (row AttributesRow done) done))) ended)))))))))
