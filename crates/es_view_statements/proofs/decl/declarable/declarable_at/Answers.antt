use Rattle.std.proofs.Common.{refl}
use Rattle.es_grammar.specs.declared.rows.NodeKind.TheVariants as l
use Rattle.es_syntax.proofs.Labels.{other}
use Rattle.es_view_statements.proofs.decl.declarable.declarable_at.Goals as goal

-- no other alternative is one of these
pub returns-in_default : goal.returns-in_default
returns-in_default c =
    let label = c.in-Node.label in
    record {
      form = λ x ts. tt;
      other = rw (
        c.in-Node.is,
        other label l.TypedFunction c.in_default.not-TypedFunction,
        other label l.TypedAsyncFunction c.in_default.not-TypedAsyncFunction,
        other label l.TypedClass c.in_default.not-TypedClass,
        other label l.AbstractClass c.in_default.not-AbstractClass,
        other label l.InterfaceDeclaration c.in_default.not-InterfaceDeclaration,
        other label l.AliasDeclaration c.in_default.not-AliasDeclaration,
        other label l.EnumDeclaration c.in_default.not-EnumDeclaration,
        other label l.NamespaceDeclaration c.in_default.not-NamespaceDeclaration,
        other label l.ModuleDeclaration c.in_default.not-ModuleDeclaration,
        other label l.GlobalDeclaration c.in_default.not-GlobalDeclaration,
      ) refl;
      below = tt;
    }
