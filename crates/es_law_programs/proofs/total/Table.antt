-- What is asked of the parts of each alternative, for each way in which its node may be read.
use Rattle.es_grammar.specs.declared.rows.NodeKind.{NodeKind}
use Rattle.es_grammar.specs.declared.rows.NodeKind.TheVariants as l
use Rattle.es_law_programs.proofs.total.Uses.{Use, as_expr, as_pat, as_stmt, as_decl, as_item, as_program, as_block, as_variables, as_declarator, as_head, as_param, as_params, as_pat_prop, as_prop, as_member, as_key, as_post, as_args, as_clause, as_names, as_import_specifier, as_export_specifier, as_attributes, as_entity, as_marked, as_signature, as_declarable, as_type, as_reference, as_arguments, as_type_params, as_element, as_type_member, as_type_key, as_fn_params, as_fn_param, as_type_pat, as_type_prop}
use Rattle.es_law_programs.proofs.total.Needs.{Needs, rest, never, any, of, leaf, word, name, maybe, hollow, list, group_of, either_of, or_one, binary, assign}
use Rattle.es_law_programs.proofs.total.Words.{is_unary, is_update_op, is_variable, is_accessor, is_type_op, is_keyword, is_sign_op, is_numeral, is_private, is_shebang, is_piece, is_word_value, is_type_word_value}

-- an expression
abbrev pub needs_expr : NodeKind → Needs
needs_expr l.Name = leaf rest
needs_expr l.Word = word is_word_value rest
needs_expr l.Number = word is_numeral rest
needs_expr l.Str = leaf rest
needs_expr l.RegExp = leaf rest
needs_expr l.Template = word is_piece rest
needs_expr l.TemplateParts = word is_piece (of as_expr (list (word is_piece (of as_expr rest)) (word is_piece rest)))
needs_expr l.Parenthesized = of as_expr rest
needs_expr l.ArrayLiteral = list (maybe (of as_expr rest) rest) rest
needs_expr l.ObjectLiteral = list (of as_prop rest) rest
needs_expr l.Spread = of as_expr rest
needs_expr l.Function = any (name (of as_params (of as_stmt rest)))
needs_expr l.AsyncFunction = any (name (of as_params (of as_stmt rest)))
needs_expr l.Class = name (maybe (of as_expr rest) (list (of as_member rest) rest))
needs_expr l.Super = rest
needs_expr l.ImportCall = of as_expr (maybe (of as_expr rest) rest)
needs_expr l.SourceCall = of as_expr (maybe (of as_expr rest) rest)
needs_expr l.DeferCall = of as_expr (maybe (of as_expr rest) rest)
needs_expr l.ImportMeta = rest
needs_expr l.NewTarget = rest
needs_expr l.New = of as_expr (maybe (of as_args rest) rest)
needs_expr l.Chain = of as_expr (of as_post (list (of as_post rest) rest))
needs_expr l.UpdatePrefix = word is_update_op (of as_expr rest)
needs_expr l.UpdatePostfix = of as_expr (word is_update_op rest)
needs_expr l.UnaryExpression = word is_unary (of as_expr rest)
needs_expr l.AwaitExpression = of as_expr rest
needs_expr l.Binary = of as_expr (binary (of as_expr rest))
needs_expr l.PrivateIn = word is_private (of as_expr rest)
needs_expr l.Conditional = of as_expr (of as_expr (of as_expr rest))
needs_expr l.Assignment = of as_expr (assign (of as_expr rest))
needs_expr l.PatternAssignment = of as_pat (of as_expr rest)
needs_expr l.Yield = maybe (any (of as_expr rest)) rest
needs_expr l.NameArrow = leaf (either_of (of as_block rest) (of as_expr rest) rest)
needs_expr l.ParenthesizedArrow = of as_params (either_of (of as_block rest) (of as_expr rest) rest)
needs_expr l.AsyncNameArrow = leaf (either_of (of as_block rest) (of as_expr rest) rest)
needs_expr l.AsyncParenthesizedArrow = of as_params (either_of (of as_block rest) (of as_expr rest) rest)
needs_expr l.Sequence = of as_expr (of as_expr (list (of as_expr rest) rest))
needs_expr l.TypedFunction = any (name (of as_signature (either_of (of as_stmt rest) (hollow rest) rest)))
needs_expr l.TypedAsyncFunction = any (name (of as_signature (either_of (of as_stmt rest) (hollow rest) rest)))
needs_expr l.TypedClass =
    name (maybe (of as_type_params rest)
    (maybe (of as_expr (maybe (of as_arguments rest) rest))
    (maybe (of as_reference (list (of as_reference rest) rest)) (list (of as_member rest) rest))))
needs_expr l.AbstractClass =
    name (maybe (of as_type_params rest)
    (maybe (of as_expr (maybe (of as_arguments rest) rest))
    (maybe (of as_reference (list (of as_reference rest) rest)) (list (of as_member rest) rest))))
needs_expr l.TypedNew = of as_expr (maybe (of as_arguments rest) (maybe (of as_args rest) rest))
needs_expr l.TypedBinary =
    of as_expr (either_of (leaf (either_of (leaf rest) (of as_type rest) rest)) (binary (of as_expr rest)) rest)
needs_expr l.TypeAssertion = either_of (leaf rest) (of as_type rest) (of as_expr rest)
needs_expr l.TypedParenthesizedArrow =
    maybe (of as_type_params rest)
    (of as_params (maybe (of as_type rest) (either_of (of as_block rest) (of as_expr rest) rest)))
needs_expr l.TypedAsyncParenthesizedArrow =
    maybe (of as_type_params rest)
    (of as_params (maybe (of as_type rest) (either_of (of as_block rest) (of as_expr rest) rest)))
needs_expr _ = never

-- a pattern
abbrev pub needs_pat : NodeKind → Needs
needs_pat l.NamePattern = leaf rest
needs_pat l.ArrayPattern = list (maybe (of as_pat rest) rest) rest
needs_pat l.ObjectPattern = list (of as_pat_prop rest) rest
needs_pat l.RestPattern = of as_pat rest
needs_pat l.DefaultPattern = of as_pat (of as_expr rest)
needs_pat _ = never

-- a pattern that may have `?` or a type behind it
abbrev pub needs_marked : NodeKind → Needs
needs_marked l.NamePattern = leaf rest
needs_marked l.ArrayPattern = list (maybe (of as_pat rest) rest) rest
needs_marked l.ObjectPattern = list (of as_pat_prop rest) rest
needs_marked _ = never

-- variables
abbrev pub needs_variables : NodeKind → Needs
needs_variables l.Variables = word is_variable (of as_declarator (list (of as_declarator rest) rest))
needs_variables l.Using = any (of as_declarator (list (of as_declarator rest) rest))
needs_variables _ = never

-- a declaration that may stand behind `declare`
abbrev pub needs_declarable : NodeKind → Needs
needs_declarable l.TypedFunction = any (name (of as_signature (either_of (of as_stmt rest) (hollow rest) rest)))
needs_declarable l.TypedAsyncFunction = any (name (of as_signature (either_of (of as_stmt rest) (hollow rest) rest)))
needs_declarable l.TypedClass =
    name (maybe (of as_type_params rest)
    (maybe (of as_expr (maybe (of as_arguments rest) rest))
    (maybe (of as_reference (list (of as_reference rest) rest)) (list (of as_member rest) rest))))
needs_declarable l.AbstractClass =
    name (maybe (of as_type_params rest)
    (maybe (of as_expr (maybe (of as_arguments rest) rest))
    (maybe (of as_reference (list (of as_reference rest) rest)) (list (of as_member rest) rest))))
needs_declarable l.InterfaceDeclaration =
    leaf (maybe (of as_type_params rest)
    (maybe (of as_reference (list (of as_reference rest) rest)) (list (of as_type_member rest) rest)))
needs_declarable l.AliasDeclaration = leaf (maybe (of as_type_params rest) (of as_type rest))
needs_declarable l.EnumDeclaration = any (leaf (list (of as_key (maybe (of as_expr rest) rest)) rest))
needs_declarable l.NamespaceDeclaration = leaf (of as_entity (list (of as_item rest) rest))
needs_declarable l.ModuleDeclaration = leaf (either_of (list (of as_item rest) rest) (hollow rest) rest)
needs_declarable l.GlobalDeclaration = list (of as_item rest) rest
needs_declarable _ = never

-- a declaration
abbrev pub needs_decl : NodeKind → Needs
needs_decl l.Function = any (name (of as_params (of as_stmt rest)))
needs_decl l.AsyncFunction = any (name (of as_params (of as_stmt rest)))
needs_decl l.Class = name (maybe (of as_expr rest) (list (of as_member rest) rest))
needs_decl l.VariableDeclaration = of as_variables rest
needs_decl l.UsingDeclaration = of as_variables rest
needs_decl l.Variables = word is_variable (of as_declarator (list (of as_declarator rest) rest))
needs_decl l.Using = any (of as_declarator (list (of as_declarator rest) rest))
needs_decl l.Declared = of as_declarable rest
needs_decl l.DeclaredVariables = of as_variables rest
needs_decl label = needs_declarable label

-- the statements of a block
abbrev pub needs_block : NodeKind → Needs
needs_block l.Block = list (of as_stmt rest) rest
needs_block _ = never

-- a statement
abbrev pub needs_stmt : NodeKind → Needs
needs_stmt l.Block = list (of as_stmt rest) rest
needs_stmt l.EmptyStatement = rest
needs_stmt l.ExpressionStatement = of as_expr rest
needs_stmt l.LabelledStatement = leaf (of as_stmt rest)
needs_stmt l.IfStatement = of as_expr (of as_stmt (maybe (of as_stmt rest) rest))
needs_stmt l.ForStatement =
    maybe (of as_stmt rest)
    (maybe (of as_stmt rest)
    (maybe (of as_expr rest) (maybe (of as_expr rest) (maybe (of as_expr rest) (of as_stmt rest)))))
needs_stmt l.ForEachStatement = of as_head (group_of (leaf (of as_expr rest)) (of as_stmt rest))
needs_stmt l.ForAwaitStatement = of as_head (of as_expr (of as_stmt rest))
needs_stmt l.WhileStatement = of as_expr (of as_stmt rest)
needs_stmt l.DoStatement = of as_stmt (of as_expr rest)
needs_stmt l.ContinueStatement = maybe (leaf rest) rest
needs_stmt l.BreakStatement = maybe (leaf rest) rest
needs_stmt l.ReturnStatement = or_one (of as_expr rest) rest rest
needs_stmt l.ThrowStatement = of as_expr rest
needs_stmt l.SwitchStatement = of as_expr (list (maybe (of as_expr rest) (list (of as_stmt rest) rest)) rest)
needs_stmt l.TryStatement =
    of as_stmt (or_one (maybe (of as_pat rest) (of as_stmt (maybe (of as_stmt rest) rest))) (of as_stmt rest) rest)
needs_stmt l.DebuggerStatement = rest
needs_stmt l.WithStatement = of as_expr (of as_stmt rest)
needs_stmt l.TypedTryStatement =
    of as_stmt (or_one (maybe (of as_marked (maybe (of as_type rest) rest))
    (of as_stmt (maybe (of as_stmt rest) rest))) (of as_stmt rest) rest)
needs_stmt label = needs_decl label

-- a declarator
abbrev pub needs_declarator : NodeKind → Needs
needs_declarator l.Declarator = of as_pat (of as_expr rest)
needs_declarator l.TypedDeclarator = of as_marked (any (maybe (of as_type rest) (maybe (of as_expr rest) rest)))
needs_declarator label = needs_pat label

-- a parameter
abbrev pub needs_param : NodeKind → Needs
needs_param l.DefaultParameter = of as_pat (of as_expr rest)
needs_param l.ThisParameter = leaf (any (maybe (of as_type rest) (maybe (of as_expr rest) rest)))
needs_param l.PropertyParameter =
    list (leaf rest) (of as_marked (any (maybe (of as_type rest) (maybe (of as_expr rest) rest))))
needs_param l.MarkedParameter = of as_marked (any (maybe (of as_type rest) (maybe (of as_expr rest) rest)))
needs_param label = needs_pat label

-- the head of a `for`
abbrev pub needs_head : NodeKind → Needs
needs_head l.VariableHead = word is_variable (of as_pat rest)
needs_head l.UsingHead = any (leaf rest)
needs_head l.TypedVariableHead = word is_variable (of as_marked (maybe (of as_type rest) rest))
needs_head label = needs_pat label

-- parameters
abbrev pub needs_params : NodeKind → Needs
needs_params l.Parameters = list (of as_param rest) (maybe (of as_pat rest) rest)
needs_params l.Signature = of as_params rest
needs_params l.TypedParameters = list (of as_param rest) (maybe (of as_pat (maybe (of as_type rest) rest)) rest)
needs_params _ = never

-- a signature
abbrev pub needs_signature : NodeKind → Needs
needs_signature l.TypedSignature = maybe (of as_type_params rest) (of as_params (maybe (of as_type rest) rest))
needs_signature _ = never

-- a property of a pattern
abbrev pub needs_pat_prop : NodeKind → Needs
needs_pat_prop l.RestProperty = of as_pat rest
needs_pat_prop l.KeyPattern = of as_key (of as_pat (maybe (of as_expr rest) rest))
needs_pat_prop l.NameProperty = leaf (maybe (of as_expr rest) rest)
needs_pat_prop _ = never

-- a key
abbrev pub needs_key : NodeKind → Needs
needs_key l.WordKey = leaf rest
needs_key l.StrKey = leaf rest
needs_key l.NumberKey = word is_numeral rest
needs_key l.ComputedKey = of as_expr rest
needs_key l.PrivateKey = word is_private rest
needs_key _ = never

-- a property of an object
abbrev pub needs_prop : NodeKind → Needs
needs_prop l.SpreadProperty = of as_expr rest
needs_prop l.AccessorProperty = word is_accessor (of as_key (of as_params (of as_stmt rest)))
needs_prop l.AsyncProperty = any (of as_key (of as_params (of as_stmt rest)))
needs_prop l.GeneratorProperty = of as_key (of as_params (of as_stmt rest))
needs_prop l.MethodProperty = of as_key (of as_params (of as_stmt rest))
needs_prop l.KeyValue = of as_key (of as_expr rest)
needs_prop l.Shorthand = leaf rest
needs_prop l.TypedAccessorProperty = word is_accessor (group_of (of as_key (of as_signature rest)) (of as_stmt rest))
needs_prop l.TypedAsyncProperty = any (group_of (of as_key (of as_signature rest)) (of as_stmt rest))
needs_prop l.TypedGeneratorProperty = group_of (of as_key (of as_signature rest)) (of as_stmt rest)
needs_prop l.TypedMethodProperty = group_of (of as_key (of as_signature rest)) (of as_stmt rest)
needs_prop _ = never

-- a member of a class
abbrev pub needs_member : NodeKind → Needs
needs_member l.EmptyMember = rest
needs_member l.StaticBlock = of as_block rest
needs_member l.AccessorMember = any (word is_accessor (of as_key (of as_params (of as_stmt rest))))
needs_member l.AsyncMember = any (any (of as_key (of as_params (of as_stmt rest))))
needs_member l.GeneratorMember = any (of as_key (of as_params (of as_stmt rest)))
needs_member l.MethodMember = any (of as_key (of as_params (of as_stmt rest)))
needs_member l.FieldMember = any (of as_key (maybe (of as_expr rest) rest))
needs_member l.AccessorField = any (of as_key (maybe (of as_expr rest) rest))
needs_member l.TypedAccessorMember =
    list (leaf rest) (word is_accessor
    (group_of (of as_key (any (of as_signature rest))) (either_of (of as_stmt rest) (hollow rest) rest)))
needs_member l.TypedAsyncMember =
    list (leaf rest) (any
    (group_of (of as_key (any (of as_signature rest))) (either_of (of as_stmt rest) (hollow rest) rest)))
needs_member l.TypedGeneratorMember =
    list (leaf rest) (group_of (of as_key (any (of as_signature rest)))
    (either_of (of as_stmt rest) (hollow rest) rest))
needs_member l.TypedMethodMember =
    list (leaf rest) (group_of (of as_key (any (of as_signature rest)))
    (either_of (of as_stmt rest) (hollow rest) rest))
needs_member l.TypedFieldMember =
    list (leaf rest) (of as_key (any (maybe (of as_type rest) (maybe (of as_expr rest) rest))))
needs_member l.TypedAccessorField =
    list (leaf rest) (of as_key (any (maybe (of as_type rest) (maybe (of as_expr rest) rest))))
needs_member l.IndexMember = list (leaf rest) (leaf (of as_type (maybe (of as_type rest) rest)))
needs_member _ = never

-- a further part of a chain
abbrev pub needs_post : NodeKind → Needs
needs_post l.MemberPost = leaf rest
needs_post l.IndexPost = of as_expr rest
needs_post l.CallPost = of as_args rest
needs_post l.TemplatePost = of as_expr rest
needs_post l.OptionalPost = either_of (of as_expr rest) (either_of (of as_args rest) (leaf rest) rest) rest
needs_post l.TypedCallPost = maybe (of as_arguments rest) (of as_args rest)
needs_post l.TypedTemplatePost = maybe (of as_arguments rest) (of as_expr rest)
needs_post l.TypedOptionalPost =
    either_of (of as_expr rest) (either_of (maybe (of as_arguments rest) (of as_args rest)) (leaf rest) rest) rest
needs_post l.NonNullPost = rest
needs_post _ = never

-- arguments
abbrev pub needs_args : NodeKind → Needs
needs_args l.Arguments = list (any (of as_expr rest)) rest
needs_args _ = never

-- names that an import binds
abbrev pub needs_names : NodeKind → Needs
needs_names l.Namespace = leaf rest
needs_names l.NamedImports = list (of as_import_specifier rest) rest
needs_names _ = never

-- a clause of an import
abbrev pub needs_clause : NodeKind → Needs
needs_clause l.DefaultClause = leaf rest
needs_clause l.DefaultAndClause = leaf (of as_names rest)
needs_clause label = needs_names label

-- a specifier of an import
abbrev pub needs_import_specifier : NodeKind → Needs
needs_import_specifier l.RenamedImport = any (group_of (leaf rest) (leaf rest))
needs_import_specifier l.ImportedName = any (leaf rest)
needs_import_specifier _ = never

-- a specifier of an export
abbrev pub needs_export_specifier : NodeKind → Needs
needs_export_specifier l.ExportedName = any (group_of (leaf rest) (maybe (group_of (leaf rest) rest) rest))
needs_export_specifier _ = never

-- attributes
abbrev pub needs_attributes : NodeKind → Needs
needs_attributes l.Attributes = list (group_of (leaf rest) (leaf rest)) rest
needs_attributes _ = never

-- a name with dots
abbrev pub needs_entity : NodeKind → Needs
needs_entity l.Entity = leaf (list (leaf rest) rest)
needs_entity l.EntityOfType = leaf (list (leaf rest) rest)
needs_entity _ = never

-- an import or an export
abbrev pub needs_module_decl : NodeKind → Needs
needs_module_decl l.BareImport = leaf (maybe (of as_attributes rest) rest)
needs_module_decl l.FromImport = any (of as_clause (leaf (maybe (of as_attributes rest) rest)))
needs_module_decl l.SourceImport = leaf (leaf (maybe (of as_attributes rest) rest))
needs_module_decl l.DeferImport = leaf (leaf (maybe (of as_attributes rest) rest))
needs_module_decl l.RequireImport = any (leaf (leaf rest))
needs_module_decl l.EntityImport = any (leaf (of as_entity rest))
needs_module_decl l.ExportedRequireImport = any (leaf (leaf rest))
needs_module_decl l.ExportedEntityImport = any (leaf (of as_entity rest))
needs_module_decl l.ExportAll = any (maybe (group_of (leaf rest) rest) (leaf (maybe (of as_attributes rest) rest)))
needs_module_decl l.ExportNames =
    any (list (of as_export_specifier rest) (maybe (leaf (maybe (of as_attributes rest) rest)) rest))
needs_module_decl l.ExportNamespace = leaf rest
needs_module_decl l.ExportDefaultFunction = of as_decl rest
needs_module_decl l.ExportDefaultClass = of as_decl rest
needs_module_decl l.ExportDefaultExpression = of as_expr rest
needs_module_decl l.ExportDeclaration = of as_decl rest
needs_module_decl l.ExportDefaultInterface = of as_decl rest
needs_module_decl l.ExportAssignment = of as_expr rest
needs_module_decl _ = never

-- a program
abbrev pub needs_program : NodeKind → Needs
needs_program l.Module = maybe (word is_shebang rest) (list (of as_item rest) rest)
needs_program l.Script = maybe (word is_shebang rest) (list (of as_stmt rest) rest)
needs_program _ = never

-- a type
abbrev pub needs_type : NodeKind → Needs
needs_type l.FunctionType = maybe (of as_type_params rest) (of as_fn_params (of as_type rest))
needs_type l.ConstructorType = any (maybe (of as_type_params rest) (of as_fn_params (of as_type rest)))
needs_type l.ConditionalType = of as_type (of as_type (of as_type (of as_type rest)))
needs_type l.UnionType = of as_type (of as_type (list (of as_type rest) rest))
needs_type l.LeadingUnionType = of as_type (list (of as_type rest) rest)
needs_type l.IntersectionType = of as_type (of as_type (list (of as_type rest) rest))
needs_type l.LeadingIntersectionType = of as_type (list (of as_type rest) rest)
needs_type l.TypeOperator = word is_type_op (of as_type rest)
needs_type l.InferType = leaf rest
needs_type l.ArrayTypes = of as_type (maybe (of as_type rest) (list (maybe (of as_type rest) rest) rest))
needs_type l.KeywordType = word is_keyword rest
needs_type l.ThisType = rest
needs_type l.WordType = word is_type_word_value rest
needs_type l.StrType = leaf rest
needs_type l.NumberType = any (word is_numeral rest)
needs_type l.TemplateType = word is_piece rest
needs_type l.TemplateTypes = word is_piece (of as_type (list (word is_piece (of as_type rest)) (word is_piece rest)))
needs_type l.TypeQuery = group_of (of as_type rest) rest
needs_type l.ParenthesizedType = of as_type rest
needs_type l.MembersType = list (of as_type_member rest) rest
needs_type l.TupleType = list (of as_element rest) rest
needs_type l.MappedType =
    maybe (maybe (word is_sign_op rest) rest)
    (leaf (of as_type (maybe (of as_type rest)
    (maybe (maybe (word is_sign_op rest) rest) (maybe (of as_type rest) rest)))))
needs_type l.Reference = of as_entity (of as_arguments rest)
needs_type l.ImportType = leaf (maybe (of as_entity rest) (maybe (of as_arguments rest) rest))
needs_type l.AssertsResult = leaf (maybe (of as_type rest) rest)
needs_type l.PredicateResult = leaf (of as_type rest)
needs_type l.EntityOfType = leaf (list (leaf rest) rest)
needs_type _ = never

-- arguments between `<` and `>`
abbrev pub needs_arguments : NodeKind → Needs
needs_arguments l.TypeArguments = of as_type (list (of as_type rest) rest)
needs_arguments _ = never

-- parameters between `<` and `>`
abbrev pub needs_type_params : NodeKind → Needs
needs_type_params l.TypeParameters =
    list (leaf rest) (leaf
    (maybe (of as_type rest)
    (maybe (of as_type rest)
    (any (list (list (leaf rest) (leaf (maybe (of as_type rest) (maybe (of as_type rest) rest)))) rest)))))
needs_type_params _ = never

-- an element of a tuple
abbrev pub needs_element : NodeKind → Needs
needs_element l.RestElement = maybe (leaf rest) (of as_type rest)
needs_element l.LabelledElement = leaf (any (of as_type rest))
needs_element l.OptionalElement = of as_type rest
needs_element label = needs_type label

-- a member of a type
abbrev pub needs_type_member : NodeKind → Needs
needs_type_member l.CallSignature = maybe (of as_type_params rest) (of as_fn_params (maybe (of as_type rest) rest))
needs_type_member l.ConstructSignature = maybe (of as_type_params rest) (of as_fn_params (maybe (of as_type rest) rest))
needs_type_member l.IndexSignature = any (leaf (of as_type (maybe (of as_type rest) rest)))
needs_type_member l.AccessorSignature =
    word is_accessor (of
    as_type_key (any (maybe (of as_type_params rest) (of as_fn_params (maybe (of as_type rest) rest)))))
needs_type_member l.MethodSignature =
    of as_type_key (any (maybe (of as_type_params rest) (of as_fn_params (maybe (of as_type rest) rest))))
needs_type_member l.PropertySignature = of as_type_key (any (maybe (of as_type rest) rest))
needs_type_member l.ReadonlyProperty = of as_type_key (any (maybe (of as_type rest) rest))
needs_type_member _ = never

-- a key of a type
abbrev pub needs_type_key : NodeKind → Needs
needs_type_key l.WordKeyOfType = leaf rest
needs_type_key l.StrKeyOfType = leaf rest
needs_type_key l.NumberKeyOfType = leaf rest
needs_type_key l.ComputedKeyOfType =
    either_of (leaf rest) (either_of (word is_numeral rest) (of as_entity rest) rest) rest
needs_type_key l.WordPatternKey = leaf rest
needs_type_key l.StrPatternKey = leaf rest
needs_type_key l.NumberPatternKey = leaf rest
needs_type_key _ = never

-- a pattern of a parameter in a type
abbrev pub needs_type_pat : NodeKind → Needs
needs_type_pat l.NamePatternOfType = leaf rest
needs_type_pat l.ArrayPatternOfType = list (maybe (of as_type_pat rest) rest) rest
needs_type_pat l.ObjectPatternOfType = list (of as_type_prop rest) rest
needs_type_pat l.RestPatternOfType = of as_type_pat rest
needs_type_pat _ = never

-- a property of such a pattern
abbrev pub needs_type_prop : NodeKind → Needs
needs_type_prop l.RestPropertyOfType = of as_type_pat rest
needs_type_prop l.KeyProperty = of as_type_key (of as_type_pat rest)
needs_type_prop l.NamePropertyOfType = leaf rest
needs_type_prop _ = never

-- a parameter in a type
abbrev pub needs_fn_param : NodeKind → Needs
needs_fn_param l.ThisParameterOfType = leaf (any (maybe (of as_type rest) rest))
needs_fn_param l.MarkedParameterOfType =
    of as_type_pat (either_of (leaf (maybe (of as_type rest) rest)) (of as_type rest) rest)
needs_fn_param label = needs_type_pat label

-- parameters in a type
abbrev pub needs_fn_params : NodeKind → Needs
needs_fn_params l.ParametersOfType =
    list (of as_fn_param rest) (maybe (of as_type_pat (maybe (of as_type rest) rest)) rest)
needs_fn_params _ = never

-- a name of a type, with arguments or without
abbrev pub needs_reference : NodeKind → Needs
needs_reference l.Reference = of as_entity (of as_arguments rest)
needs_reference l.EntityOfType = leaf (list (leaf rest) rest)
needs_reference _ = never

-- an item that is no import and no export is a statement
abbrev pub needs_item : NodeKind → Needs
needs_item l.BareImport = needs_module_decl l.BareImport
needs_item l.FromImport = needs_module_decl l.FromImport
needs_item l.SourceImport = needs_module_decl l.SourceImport
needs_item l.DeferImport = needs_module_decl l.DeferImport
needs_item l.RequireImport = needs_module_decl l.RequireImport
needs_item l.EntityImport = needs_module_decl l.EntityImport
needs_item l.ExportedRequireImport = needs_module_decl l.ExportedRequireImport
needs_item l.ExportedEntityImport = needs_module_decl l.ExportedEntityImport
needs_item l.ExportAll = needs_module_decl l.ExportAll
needs_item l.ExportNames = needs_module_decl l.ExportNames
needs_item l.ExportNamespace = needs_module_decl l.ExportNamespace
needs_item l.ExportDefaultFunction = needs_module_decl l.ExportDefaultFunction
needs_item l.ExportDefaultClass = needs_module_decl l.ExportDefaultClass
needs_item l.ExportDefaultExpression = needs_module_decl l.ExportDefaultExpression
needs_item l.ExportDeclaration = needs_module_decl l.ExportDeclaration
needs_item l.ExportDefaultInterface = needs_module_decl l.ExportDefaultInterface
needs_item l.ExportAssignment = needs_module_decl l.ExportAssignment
needs_item label = needs_stmt label

-- what is asked of a node that is to be read so
abbrev pub needs : NodeKind → Use → Needs
needs label as_expr = needs_expr label
needs label as_pat = needs_pat label
needs label as_stmt = needs_stmt label
needs label as_decl = needs_decl label
needs label as_item = needs_item label
needs label as_program = needs_program label
needs label as_block = needs_block label
needs label as_variables = needs_variables label
needs label as_declarator = needs_declarator label
needs label as_head = needs_head label
needs label as_param = needs_param label
needs label as_params = needs_params label
needs label as_pat_prop = needs_pat_prop label
needs label as_prop = needs_prop label
needs label as_member = needs_member label
needs label as_key = needs_key label
needs label as_post = needs_post label
needs label as_args = needs_args label
needs label as_clause = needs_clause label
needs label as_names = needs_names label
needs label as_import_specifier = needs_import_specifier label
needs label as_export_specifier = needs_export_specifier label
needs label as_attributes = needs_attributes label
needs label as_entity = needs_entity label
needs label as_marked = needs_marked label
needs label as_signature = needs_signature label
needs label as_declarable = needs_declarable label
needs label as_type = needs_type label
needs label as_reference = needs_reference label
needs label as_arguments = needs_arguments label
needs label as_type_params = needs_type_params label
needs label as_element = needs_element label
needs label as_type_member = needs_type_member label
needs label as_type_key = needs_type_key label
needs label as_fn_params = needs_fn_params label
needs label as_fn_param = needs_fn_param label
needs label as_type_pat = needs_type_pat label
needs label as_type_prop = needs_type_prop label
