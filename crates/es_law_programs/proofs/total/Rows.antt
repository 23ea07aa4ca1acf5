-- What the trees of each row may be read as.
use Rattle.std.specs.Prelude.{Bool, false, ◌&&◌, ◌||◌, if◌then◌else◌}
use Rattle.grammar_theory.specs.declared.error.Lang.{Lang}
use Rattle.grammar_theory.specs.Languages.{typed}
use Rattle.es_grammar.specs.declared.rows.Row.{Row}
use Rattle.es_grammar.specs.declared.rows.Row.TheVariants.{ModuleRow, ScriptRow, ItemRow, ClauseRow, NamedRow, ImportSpecifierRow, ExportSpecifierRow, AttributesRow, EntityRow, StatementRow, BlockRow, DeclarationRow, DeclaredRow, VariablesRow, DeclaratorRow, UsingRow, HeadRow, HeadPatternRow, SignatureRow, ParametersRow, ParameterRow, PatternRow, InnerPatternRow, PatternElementRow, PatternPropertyRow, FunctionRow, ClassRow, MemberRow, PropertyRow, KeyRow, PostRow, MemberPostRow, ArgumentsRow, TypesRow}
use Rattle.es_grammar.specs.declared.rows.NodeKind.{NodeKind}
use Rattle.es_grammar.specs.declared.rows.NodeKind.TheVariants as labels
use Rattle.es_grammar.specs.declared.types.rows.TypeRow.TheVariants as types
use Rattle.es_lowering.specs.Lowering.{same_label}
use Rattle.es_law_programs.proofs.total.Uses.{Use, as_args, as_arguments, as_attributes, as_block, as_clause, as_decl, as_declarable, as_declarator, as_element, as_entity, as_export_specifier, as_expr, as_fn_param, as_fn_params, as_head, as_import_specifier, as_item, as_key, as_marked, as_member, as_names, as_param, as_params, as_pat, as_pat_prop, as_post, as_program, as_prop, as_reference, as_signature, as_stmt, as_type, as_type_key, as_type_member, as_type_params, as_type_pat, as_type_prop, as_variables, same_use}

-- what each row gives
abbrev pub first_use : Lang → Row → Use
first_use l ModuleRow = as_program
first_use l ScriptRow = as_program
first_use l (ItemRow c) = as_item
first_use l ClauseRow = as_clause
first_use l NamedRow = as_names
first_use l ImportSpecifierRow = as_import_specifier
first_use l ExportSpecifierRow = as_export_specifier
first_use l AttributesRow = as_attributes
first_use l EntityRow = as_entity
first_use l (StatementRow c) = as_stmt
first_use l (BlockRow c) = as_stmt
first_use l (DeclarationRow c) = as_decl
first_use l (DeclaredRow c) = as_decl
first_use l (VariablesRow c) = as_variables
first_use l (DeclaratorRow c) = as_declarator
first_use l (UsingRow c) = as_variables
first_use l (HeadRow c) = as_head
first_use l (HeadPatternRow c) = as_pat
first_use l (FunctionRow named c) = as_decl
first_use l (ClassRow named c) = as_decl
first_use l (ParametersRow c) = as_params
first_use l (ParameterRow c) = as_param
first_use l (PatternRow t c) = as_pat
first_use l (InnerPatternRow t c) = as_pat
first_use l (PatternElementRow t c) = as_pat
first_use l (PatternPropertyRow t c) = as_pat_prop
first_use l (MemberRow c) = as_member
first_use l (PropertyRow c) = as_prop
first_use l (KeyRow p c) = as_key
first_use l (PostRow c) = as_post
first_use l (MemberPostRow c) = as_post
first_use l (ArgumentsRow c) = as_args
first_use l (SignatureRow c) = if typed l then as_signature else as_params
first_use l (TypesRow (types.TypeRow t)) = as_type
first_use l (TypesRow types.IntersectionRow) = as_type
first_use l (TypesRow types.OperandRow) = as_type
first_use l (TypesRow types.ReferenceRow) = as_reference
first_use l (TypesRow types.EntityRow) = as_entity
first_use l (TypesRow types.ImportRow) = as_type
first_use l (TypesRow types.ArgumentsRow) = as_arguments
first_use l (TypesRow types.TypeParametersRow) = as_type_params
first_use l (TypesRow types.OpenedFunctionRow) = as_type
first_use l (TypesRow types.OpenedParametersRow) = as_type_params
first_use l (TypesRow types.ElementRow) = as_element
first_use l (TypesRow types.MemberRow) = as_type_member
first_use l (TypesRow types.KeyRow) = as_type_key
first_use l (TypesRow (types.ResultRow t)) = as_type
first_use l (TypesRow types.ParametersRow) = as_fn_params
first_use l (TypesRow types.ParameterRow) = as_fn_param
first_use l (TypesRow types.PatternRow) = as_type_pat
first_use l (TypesRow types.PatternElementRow) = as_type_pat
first_use l (TypesRow types.PatternPropertyRow) = as_type_prop
first_use l (TypesRow types.PatternKeyRow) = as_type_key
first_use l _ = as_expr

-- and what some give besides
abbrev pub second_use : Lang → Row → Use
second_use l (BlockRow c) = as_block
second_use l (DeclaredRow c) = as_declarable
second_use l (VariablesRow c) = as_stmt
second_use l (UsingRow c) = as_stmt
second_use l (PatternRow false c) = as_marked
second_use l (TypesRow types.ReferenceRow) = as_type
second_use l r = first_use l r

-- the trees of the row may be read so; types, and what stands behind `declare`, are rows of TypeScript alone
abbrev pub yields : Lang → Row → Use → Bool
yields l (DeclaredRow c) u =
    typed l && (same_use u (first_use l (DeclaredRow c)) || same_use u (second_use l (DeclaredRow c)))
yields l (TypesRow r) u = typed l && (same_use u (first_use l (TypesRow r)) || same_use u (second_use l (TypesRow r)))
yields l r u = same_use u (first_use l r) || same_use u (second_use l r)

-- what stands behind a type's name is no further node of the same alternative
abbrev pub is_reference : NodeKind → Bool
is_reference label = same_label label labels.Reference

-- so it is told of the rows of types; of the others nothing is asked
abbrev pub shut : Row → NodeKind → Bool
shut (TypesRow r) = is_reference
shut _ = λ label. false
