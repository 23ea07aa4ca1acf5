-- How the tokens of each alternative are printed that belong to it and to none of its parts, and where a `;` stands behind
-- it: a line for each alternative that isn't plain.
use Rattle.es_grammar.specs.declared.rows.NodeKind.{NodeKind}
use Rattle.es_grammar.specs.declared.rows.NodeKind.TheVariants as l
use Rattle.es_printer.specs.declared.style.Style.{Style}
use Rattle.es_printer.specs.declared.style.Style.TheVariants.{Plain, Program, Block, Body, Fields, Member, Enum, Object, Types, Cases, Inline, Star, Empty, Loop, Condition, Operator, Prefix, Index, Question, Tag, Path}
use Rattle.es_printer.specs.declared.style.Ends.{Ends}
use Rattle.es_printer.specs.declared.style.Ends.TheVariants.{Never, Always, Bare}

unfoldable pub style : NodeKind → Style
-- ---- an item a line
style l.Module = Program
style l.Script = Program
style l.Block = Block
style l.NamespaceDeclaration = Body
style l.ModuleDeclaration = Body
style l.GlobalDeclaration = Body
style l.Class = Fields
style l.TypedClass = Fields
style l.AbstractClass = Fields
style l.InterfaceDeclaration = Fields
style l.EnumDeclaration = Enum
style l.ObjectLiteral = Object
style l.MembersType = Types
style l.SwitchStatement = Cases
-- ---- in braces on one line
style l.NamedImports = Inline
style l.ExportNames = Inline
style l.Attributes = Inline
style l.ObjectPattern = Inline
style l.ObjectPatternOfType = Inline
style l.MappedType = Inline
-- ---- members of classes and types
style l.StaticBlock = Member
style l.AccessorMember = Member
style l.AsyncMember = Member
style l.GeneratorMember = Member
style l.MethodMember = Member
style l.FieldMember = Member
style l.AccessorField = Member
style l.IndexMember = Member
style l.TypedAccessorMember = Member
style l.TypedAsyncMember = Member
style l.TypedGeneratorMember = Member
style l.TypedMethodMember = Member
style l.TypedFieldMember = Member
style l.TypedAccessorField = Member
style l.CallSignature = Member
style l.ConstructSignature = Member
style l.IndexSignature = Member
style l.AccessorSignature = Member
style l.MethodSignature = Member
style l.PropertySignature = Member
style l.ReadonlyProperty = Member
-- ---- `;` alone
style l.EmptyStatement = Empty
style l.EmptyMember = Empty
-- ---- a condition in brackets
style l.ForStatement = Loop
style l.IfStatement = Condition
style l.ForEachStatement = Condition
style l.ForAwaitStatement = Condition
style l.WhileStatement = Condition
style l.DoStatement = Condition
style l.WithStatement = Condition
style l.TryStatement = Condition
style l.TypedTryStatement = Condition
-- ---- signs
style l.ExportAll = Star
style l.Namespace = Star
style l.DeferImport = Star
style l.Binary = Operator
style l.TypedBinary = Operator
style l.PrivateIn = Operator
style l.Assignment = Operator
style l.UnaryExpression = Prefix
style l.UpdatePrefix = Prefix
style l.NumberType = Prefix
style l.TypeAssertion = Prefix
style l.IndexPost = Index
style l.ArrayTypes = Index
style l.Conditional = Question
style l.ConditionalType = Question
style l.TemplatePost = Tag
style l.Entity = Path
style _ = Plain

unfoldable pub ends : NodeKind → Ends
-- ---- imports and exports
ends l.BareImport = Always
ends l.FromImport = Always
ends l.SourceImport = Always
ends l.DeferImport = Always
ends l.RequireImport = Always
ends l.EntityImport = Always
ends l.ExportedRequireImport = Always
ends l.ExportedEntityImport = Always
ends l.ExportAll = Always
ends l.ExportNames = Always
ends l.ExportNamespace = Always
ends l.ExportDefaultExpression = Always
ends l.ExportAssignment = Always
-- ---- statements and declarations
ends l.ExpressionStatement = Always
ends l.DoStatement = Always
ends l.ContinueStatement = Always
ends l.BreakStatement = Always
ends l.ReturnStatement = Always
ends l.ThrowStatement = Always
ends l.DebuggerStatement = Always
ends l.VariableDeclaration = Always
ends l.UsingDeclaration = Always
ends l.DeclaredVariables = Always
ends l.AliasDeclaration = Always
ends l.ModuleDeclaration = Bare
ends l.TypedFunction = Bare
ends l.TypedAsyncFunction = Bare
-- ---- members of classes and types
ends l.FieldMember = Always
ends l.AccessorField = Always
ends l.IndexMember = Always
ends l.TypedFieldMember = Always
ends l.TypedAccessorField = Always
ends l.TypedAccessorMember = Bare
ends l.TypedAsyncMember = Bare
ends l.TypedGeneratorMember = Bare
ends l.TypedMethodMember = Bare
ends l.CallSignature = Always
ends l.ConstructSignature = Always
ends l.IndexSignature = Always
ends l.AccessorSignature = Always
ends l.MethodSignature = Always
ends l.PropertySignature = Always
ends l.ReadonlyProperty = Always
ends _ = Never
