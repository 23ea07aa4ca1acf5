-- Where declarations are among the parts of the nodes of each alternative, in the order of the walk: a line for each
-- alternative that declares a name, has a scope, skips a part or goes in another order; any other is walked.
use Rattle.std.specs.Prelude.{List, [], ◌∷◌}
use Rattle.es_grammar.specs.declared.rows.NodeKind.{NodeKind}
use Rattle.es_grammar.specs.declared.rows.NodeKind.TheVariants as l
use Rattle.es_walk.specs.declared.step.Path.TheVariants as path
use Rattle.es_walk.specs.declared.step.Step.{Step}
use Rattle.es_walk.specs.declared.step.Step.TheVariants.{Act as Do, Rest, At, All}
use Rattle.es_variables.specs.declared.scope_analysis.kinds.BindingKind.TheVariants as kind
use Rattle.es_variables.specs.declared.scope_analysis.kinds.ScopeKind.TheVariants as scope
use Rattle.es_variables.specs.declared.scope_analysis.steps.Way.{Way}
use Rattle.es_variables.specs.declared.scope_analysis.steps.Way.TheVariants.{Same, Walks, Body, Inner, Names, Word, Method, Unless}
use Rattle.es_variables.specs.declared.scope_analysis.steps.Act.{Act}
use Rattle.es_variables.specs.declared.scope_analysis.steps.Act.TheVariants as act

unfoldable pub plan : NodeKind → List (Step Way Act (Unit {0}))
-- ---- programs and their items
plan l.SourceImport = Do (act.Declare kind.ValueImport 0) ∷ []
plan l.DefaultClause = Do (act.Declare kind.ValueImport 0) ∷ []
plan l.DeferImport = Do (act.Declare kind.NamespaceImport 0) ∷ []
plan l.Namespace = Do (act.Declare kind.NamespaceImport 0) ∷ []
plan l.DefaultAndClause = Do (act.Declare kind.ValueImport 0) ∷ Rest Walks ∷ []
plan l.RenamedImport = Do (act.Declare kind.ValueImport 2) ∷ []
plan l.ImportedName = Do (act.Declare kind.ValueImport 1) ∷ []
-- ---- statements
plan l.Block = Do (act.EnterApart scope.Block) ∷ Rest Walks ∷ Do act.LeaveApart ∷ []
-- the head: how it starts, how it goes on, and the test
plan l.ForStatement =
    All Walks (path.At 0) ∷ All Walks (path.At 1) ∷ All Walks (path.At 2) ∷ All Walks (path.At 4)
    ∷ All Walks (path.At 3) ∷ Do (act.Enter scope.Loop) ∷ At Walks (path.At 5) ∷ Do act.Leave ∷ []
plan l.ForEachStatement =
    At Walks (path.At 0) ∷ All Walks (path.At 1) ∷ Do (act.Enter scope.Loop) ∷ At Walks (path.At 2) ∷ Do act.Leave
    ∷ []
plan l.ForAwaitStatement =
    At Walks (path.At 0) ∷ At Walks (path.At 1) ∷ Do (act.Enter scope.Loop) ∷ At Walks (path.At 2) ∷ Do act.Leave ∷ []
plan l.WhileStatement = At Walks (path.At 0) ∷ Do (act.Enter scope.Loop) ∷ At Walks (path.At 1) ∷ Do act.Leave ∷ []
-- the test before the body
plan l.DoStatement = At Walks (path.At 1) ∷ Do (act.Enter scope.Loop) ∷ At Walks (path.At 0) ∷ Do act.Leave ∷ []
plan l.WithStatement = At Walks (path.At 0) ∷ Do (act.Enter scope.With) ∷ At Walks (path.At 1) ∷ Do act.Leave ∷ []
plan l.SwitchStatement = At Walks (path.At 0) ∷ Do (act.Enter scope.Switch) ∷ All Walks (path.At 1) ∷ Do act.Leave ∷ []
-- after the block of a `try` comes that of `finally` alone, or a parameter, a block and what may follow
plan l.TryStatement =
    At Walks (path.At 0) ∷ At Walks (path.In 1 0) ∷ At (Names kind.CatchClause) (path.Deep 1 0 0)
    ∷ Do (act.Enter scope.Catch) ∷ At Walks (path.In 1 1) ∷ Do act.Leave ∷ At Walks (path.Deep 1 2 0) ∷ []
plan l.TypedTryStatement =
    At Walks (path.At 0) ∷ At Walks (path.In 1 0) ∷ At (Names kind.CatchClause) (path.Deep 1 0 0)
    ∷ Do (act.Enter scope.Catch) ∷ At Walks (path.In 1 1) ∷ Do act.Leave ∷ At Walks (path.Deep 1 2 0) ∷ []
-- ---- variables: the value, and then the names
plan l.Variables = Rest Word ∷ []
plan l.Declarator = At Walks (path.At 1) ∷ Do (act.Class (path.At 1)) ∷ At (Unless (path.At 1)) (path.At 0) ∷ []
plan l.TypedDeclarator =
    All Walks (path.At 3) ∷ Do (act.Class (path.In 3 0)) ∷ At (Unless (path.In 3 0)) (path.At 0) ∷ []
plan l.VariableHead = At Word (path.At 1) ∷ []
plan l.TypedVariableHead = At Word (path.At 1) ∷ []
-- ---- patterns and parameters
plan l.NamePattern = Do (act.Name 0) ∷ []
plan l.ArrayPattern = Rest Same ∷ []
plan l.ObjectPattern = Rest Same ∷ []
plan l.RestPattern = Rest Same ∷ []
plan l.RestProperty = Rest Same ∷ []
plan l.Parameters = Rest Same ∷ []
plan l.Signature = Rest Same ∷ []
plan l.DefaultPattern = At Same (path.At 0) ∷ At Inner (path.At 1) ∷ []
plan l.DefaultParameter = At Same (path.At 0) ∷ At Inner (path.At 1) ∷ []
plan l.KeyPattern = At Inner (path.At 0) ∷ At Same (path.At 1) ∷ All Inner (path.At 2) ∷ []
plan l.NameProperty = Do (act.Name 0) ∷ All Inner (path.At 1) ∷ []
plan l.TypedParameters = All Same (path.At 0) ∷ At Same (path.In 1 0) ∷ []
plan l.MarkedParameter = At Same (path.At 0) ∷ All Inner (path.At 3) ∷ []
plan l.ThisParameter = []
plan l.TypedSignature = At Same (path.At 1) ∷ []
-- ---- functions and arrows
plan l.Function =
    Do (act.Own kind.Function 1) ∷ Do (act.Enter scope.Function) ∷ At (Names kind.Param) (path.At 2)
    ∷ At Body (path.At 3) ∷ Do act.Leave ∷ []
plan l.AsyncFunction =
    Do (act.Own kind.Function 1) ∷ Do (act.Enter scope.Function) ∷ At (Names kind.Param) (path.At 2)
    ∷ At Body (path.At 3) ∷ Do act.Leave ∷ []
plan l.TypedFunction =
    Do (act.Own kind.Function 1) ∷ Do (act.Enter scope.Function) ∷ At (Names kind.Param) (path.At 2)
    ∷ All Body (path.At 3) ∷ Do act.Leave ∷ []
plan l.TypedAsyncFunction =
    Do (act.Own kind.Function 1) ∷ Do (act.Enter scope.Function) ∷ At (Names kind.Param) (path.At 2)
    ∷ All Body (path.At 3) ∷ Do act.Leave ∷ []
plan l.NameArrow = Do (act.Enter scope.Arrow) ∷ Do (act.Declare kind.Param 0) ∷ All Body (path.At 1) ∷ Do act.Leave ∷ []
plan l.AsyncNameArrow =
    Do (act.Enter scope.Arrow) ∷ Do (act.Declare kind.Param 0) ∷ All Body (path.At 1) ∷ Do act.Leave ∷ []
plan l.ParenthesizedArrow =
    Do (act.Enter scope.Arrow) ∷ At (Names kind.Param) (path.At 0) ∷ At Walks (path.At 0) ∷ All Body (path.At 1)
    ∷ Do act.Leave ∷ []
plan l.AsyncParenthesizedArrow =
    Do (act.Enter scope.Arrow) ∷ At (Names kind.Param) (path.At 0) ∷ At Walks (path.At 0) ∷ All Body (path.At 1)
    ∷ Do act.Leave ∷ []
plan l.TypedParenthesizedArrow =
    Do (act.Enter scope.Arrow) ∷ At (Names kind.Param) (path.At 1) ∷ At Walks (path.At 1) ∷ All Body (path.At 3)
    ∷ Do act.Leave ∷ []
plan l.TypedAsyncParenthesizedArrow =
    Do (act.Enter scope.Arrow) ∷ At (Names kind.Param) (path.At 1) ∷ At Walks (path.At 1) ∷ All Body (path.At 3)
    ∷ Do act.Leave ∷ []
-- ---- classes and their members
plan l.Class = Do (act.Own kind.Class 0) ∷ Do (act.Enter scope.Class) ∷ Rest Walks ∷ Do act.Leave ∷ []
plan l.TypedClass = Do (act.Own kind.Class 0) ∷ Do (act.Enter scope.Class) ∷ Rest Walks ∷ Do act.Leave ∷ []
plan l.AbstractClass = Do (act.Own kind.Class 0) ∷ Do (act.Enter scope.Class) ∷ Rest Walks ∷ Do act.Leave ∷ []
plan l.MethodMember =
    At Walks (path.At 1) ∷ At (Names kind.Param) (path.At 2) ∷ At (Method (path.At 1)) (path.At 3) ∷ []
plan l.GeneratorMember = At Walks (path.At 1) ∷ At (Names kind.Param) (path.At 2) ∷ At Body (path.At 3) ∷ []
plan l.AsyncMember = At Walks (path.At 2) ∷ At (Names kind.Param) (path.At 3) ∷ At Body (path.At 4) ∷ []
plan l.AccessorMember = At Walks (path.At 2) ∷ At (Names kind.Param) (path.At 3) ∷ At Body (path.At 4) ∷ []
plan l.TypedMethodMember =
    At Walks (path.In 1 0) ∷ At (Names kind.Param) (path.In 1 2) ∷ All (Method (path.In 1 0)) (path.At 2) ∷ []
plan l.TypedGeneratorMember = At Walks (path.In 1 0) ∷ At (Names kind.Param) (path.In 1 2) ∷ All Body (path.At 2) ∷ []
plan l.TypedAsyncMember = At Walks (path.In 2 0) ∷ At (Names kind.Param) (path.In 2 2) ∷ All Body (path.At 3) ∷ []
plan l.TypedAccessorMember = At Walks (path.In 2 0) ∷ At (Names kind.Param) (path.In 2 2) ∷ All Body (path.At 3) ∷ []
-- ---- properties of objects: an accessor adds a block, and declares no parameter
plan l.MethodProperty = At Walks (path.At 0) ∷ At (Names kind.Param) (path.At 1) ∷ At Body (path.At 2) ∷ []
plan l.GeneratorProperty = At Walks (path.At 0) ∷ At (Names kind.Param) (path.At 1) ∷ At Body (path.At 2) ∷ []
plan l.AsyncProperty = At Walks (path.At 1) ∷ At (Names kind.Param) (path.At 2) ∷ At Body (path.At 3) ∷ []
plan l.TypedMethodProperty = At Walks (path.In 0 0) ∷ At (Names kind.Param) (path.In 0 1) ∷ At Body (path.At 1) ∷ []
plan l.TypedGeneratorProperty = At Walks (path.In 0 0) ∷ At (Names kind.Param) (path.In 0 1) ∷ At Body (path.At 1) ∷ []
plan l.TypedAsyncProperty = At Walks (path.In 1 0) ∷ At (Names kind.Param) (path.In 1 1) ∷ At Body (path.At 2) ∷ []
-- ---- declarations of TypeScript
plan l.InterfaceDeclaration = Do (act.Declare kind.TypeName 0) ∷ []
plan l.AliasDeclaration = Do (act.Declare kind.TypeName 0) ∷ []
-- all nodes in any other are walked
plan _ = Rest Walks ∷ []
