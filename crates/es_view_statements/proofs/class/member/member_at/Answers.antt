use Rattle.std.proofs.Common.{refl}
use Rattle.es_grammar.specs.declared.rows.NodeKind.TheVariants as l
use Rattle.es_syntax.proofs.Labels.{other}
use Rattle.es_view_statements.proofs.class.member.member_at.Goals as goal

-- no other alternative is one of these
pub returns-in_default : goal.returns-in_default
returns-in_default c =
    let label = c.in-Node.label in
    record {
      form = λ x ts. tt;
      other = rw (
        c.in-Node.is,
        other label l.EmptyMember c.in_default.not-EmptyMember,
        other label l.StaticBlock c.in_default.not-StaticBlock,
        other label l.GeneratorMember c.in_default.not-GeneratorMember,
        other label l.MethodMember c.in_default.not-MethodMember,
        other label l.AsyncMember c.in_default.not-AsyncMember,
        other label l.AccessorMember c.in_default.not-AccessorMember,
        other label l.FieldMember c.in_default.not-FieldMember,
        other label l.AccessorField c.in_default.not-AccessorField,
        other label l.TypedGeneratorMember c.in_default.not-TypedGeneratorMember,
        other label l.TypedMethodMember c.in_default.not-TypedMethodMember,
        other label l.TypedAsyncMember c.in_default.not-TypedAsyncMember,
        other label l.TypedAccessorMember c.in_default.not-TypedAccessorMember,
        other label l.TypedFieldMember c.in_default.not-TypedFieldMember,
        other label l.TypedAccessorField c.in_default.not-TypedAccessorField,
        other label l.IndexMember c.in_default.not-IndexMember,
      ) refl;
      below = tt;
    }
