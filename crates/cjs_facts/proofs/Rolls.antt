-- What the looks of an expression are, from those of its parts.
use Rattle.std.specs.Prelude.{Bool, Option}
use Rattle.std.proofs.Common.{◌≡◌}
use Rattle.es_ast.specs.declared.ast.ClassMember.{ClassMember}
use Rattle.es_ast.specs.declared.ast.Decl.{Decl}
use Rattle.es_ast.specs.declared.ast.Expr.{Expr, roll-Expr, map-Expr}
use Rattle.es_ast.specs.declared.ast.ModuleDecl.{ModuleDecl}
use Rattle.es_ast.specs.declared.ast.ModuleItem.{ModuleItem}
use Rattle.es_ast.specs.declared.ast.ObjectPatProp.{ObjectPatProp}
use Rattle.es_ast.specs.declared.ast.Pat.{Pat}
use Rattle.es_ast.specs.declared.ast.Prop.{Prop}
use Rattle.es_ast.specs.declared.ast.Stmt.{Stmt}
use Rattle.es_ast.specs.declared.ast.Class.{Class}
use Rattle.es_ast.specs.declared.ast.Function.{Function}
use Rattle.es_ast.specs.declared.ast.Param.{Param}
use Rattle.es_ast.specs.declared.ast.SwitchCase.{SwitchCase}
use Rattle.es_ast.specs.declared.ast.TsEnumMember.{TsEnumMember}
use Rattle.es_ast.specs.declared.ast.VarDeclarator.{VarDeclarator}
use Rattle.es_ast.specs.declared.ast.ClassMember.TheOpen.{Expr-F}
use Rattle.es_ast.specs.declared.ast.ClassMember.TheFolds.{fold-ClassMember, fold-Decl, fold-Expr, fold-ModuleDecl, fold-ModuleItem, fold-ObjectPatProp, fold-Pat, fold-Prop, fold-Stmt, fold-Class, fold-Function, fold-Param, fold-SwitchCase, fold-TsEnumMember, fold-VarDeclarator, para-ClassMember, para-Decl, para-Expr, para-ModuleDecl, para-ModuleItem, para-ObjectPatProp, para-Pat, para-Prop, para-Stmt, para-Class, para-Function, para-Param, para-SwitchCase, para-TsEnumMember, para-VarDeclarator, fold-roll-Expr, para-roll-Expr}
use Rattle.es_site.specs.Parts.{Beside, ExprParts}
use Rattle.cjs_facts.specs.Looks.{Look, Of, in_look, no_look, look, in_harmless, not_harmless, is_harmless, in_assigned, none_assigned, assigned_last}

abbrev pub look_parts : ExprParts → Of Look Expr-F
look_parts =
    map-Expr ClassMember Decl Expr ModuleDecl ModuleItem ObjectPatProp Pat Prop Stmt Class Function Param
    SwitchCase TsEnumMember VarDeclarator Look Look Look Look Look Look Look Look Look Look Look Look Look Look
    Look (fold-ClassMember Look Look Look Look Look Look Look Look Look Look Look Look Look Look Look no_look
    no_look in_look no_look no_look no_look no_look no_look no_look no_look no_look no_look no_look no_look
    no_look) (fold-Decl Look Look Look Look Look Look Look Look Look Look Look Look Look Look Look no_look
    no_look in_look no_look no_look no_look no_look no_look no_look no_look no_look no_look no_look no_look
    no_look) (fold-Expr Look Look Look Look Look Look Look Look Look Look Look Look Look Look Look no_look
    no_look in_look no_look no_look no_look no_look no_look no_look no_look no_look no_look no_look no_look
    no_look) (fold-ModuleDecl Look Look Look Look Look Look Look Look Look Look Look Look Look Look Look
    no_look no_look in_look no_look no_look no_look no_look no_look no_look no_look no_look no_look no_look
    no_look no_look) (fold-ModuleItem Look Look Look Look Look Look Look Look Look Look Look Look Look Look
    Look no_look no_look in_look no_look no_look no_look no_look no_look no_look no_look no_look no_look
    no_look no_look no_look) (fold-ObjectPatProp Look Look Look Look Look Look Look Look Look Look Look Look
    Look Look Look no_look no_look in_look no_look no_look no_look no_look no_look no_look no_look no_look
    no_look no_look no_look no_look) (fold-Pat Look Look Look Look Look Look Look Look Look Look Look Look Look
    Look Look no_look no_look in_look no_look no_look no_look no_look no_look no_look no_look no_look no_look
    no_look no_look no_look) (fold-Prop Look Look Look Look Look Look Look Look Look Look Look Look Look Look
    Look no_look no_look in_look no_look no_look no_look no_look no_look no_look no_look no_look no_look
    no_look no_look no_look) (fold-Stmt Look Look Look Look Look Look Look Look Look Look Look Look Look Look
    Look no_look no_look in_look no_look no_look no_look no_look no_look no_look no_look no_look no_look
    no_look no_look no_look) (fold-Class Look Look Look Look Look Look Look Look Look Look Look Look Look Look
    Look no_look no_look in_look no_look no_look no_look no_look no_look no_look no_look no_look no_look
    no_look no_look no_look) (fold-Function Look Look Look Look Look Look Look Look Look Look Look Look Look
    Look Look no_look no_look in_look no_look no_look no_look no_look no_look no_look no_look no_look no_look
    no_look no_look no_look) (fold-Param Look Look Look Look Look Look Look Look Look Look Look Look Look Look
    Look no_look no_look in_look no_look no_look no_look no_look no_look no_look no_look no_look no_look
    no_look no_look no_look) (fold-SwitchCase Look Look Look Look Look Look Look Look Look Look Look Look Look
    Look Look no_look no_look in_look no_look no_look no_look no_look no_look no_look no_look no_look no_look
    no_look no_look no_look) (fold-TsEnumMember Look Look Look Look Look Look Look Look Look Look Look Look
    Look Look Look no_look no_look in_look no_look no_look no_look no_look no_look no_look no_look no_look
    no_look no_look no_look no_look) (fold-VarDeclarator Look Look Look Look Look Look Look Look Look Look Look
    Look Look Look Look no_look no_look in_look no_look no_look no_look no_look no_look no_look no_look no_look
    no_look no_look no_look no_look)

pub look_roll : (w : ExprParts) → look (roll-Expr w) ≡ in_look (look_parts w)
unfolding look
look_roll w =
    fold-roll-Expr Look Look Look Look Look Look Look Look Look Look Look Look Look Look Look no_look no_look
    in_look no_look no_look no_look no_look no_look no_look no_look no_look no_look no_look no_look no_look w

abbrev pub harmless_parts : ExprParts → Of Bool Expr-F
harmless_parts =
    map-Expr ClassMember Decl Expr ModuleDecl ModuleItem ObjectPatProp Pat Prop Stmt Class Function Param
    SwitchCase TsEnumMember VarDeclarator Bool Bool Bool Bool Bool Bool Bool Bool Bool Bool Bool Bool Bool Bool
    Bool (fold-ClassMember Bool Bool Bool Bool Bool Bool Bool Bool Bool Bool Bool Bool Bool Bool Bool
    not_harmless not_harmless in_harmless not_harmless not_harmless not_harmless not_harmless not_harmless
    not_harmless not_harmless not_harmless not_harmless not_harmless not_harmless not_harmless) (fold-Decl Bool
    Bool Bool Bool Bool Bool Bool Bool Bool Bool Bool Bool Bool Bool Bool not_harmless not_harmless in_harmless
    not_harmless not_harmless not_harmless not_harmless not_harmless not_harmless not_harmless not_harmless
    not_harmless not_harmless not_harmless not_harmless) (fold-Expr Bool Bool Bool Bool Bool Bool Bool Bool
    Bool Bool Bool Bool Bool Bool Bool not_harmless not_harmless in_harmless not_harmless not_harmless
    not_harmless not_harmless not_harmless not_harmless not_harmless not_harmless not_harmless not_harmless
    not_harmless not_harmless) (fold-ModuleDecl Bool Bool Bool Bool Bool Bool Bool Bool Bool Bool Bool Bool
    Bool Bool Bool not_harmless not_harmless in_harmless not_harmless not_harmless not_harmless not_harmless
    not_harmless not_harmless not_harmless not_harmless not_harmless not_harmless not_harmless not_harmless)
    (fold-ModuleItem Bool Bool Bool Bool Bool Bool Bool Bool Bool Bool Bool Bool Bool Bool Bool not_harmless
    not_harmless in_harmless not_harmless not_harmless not_harmless not_harmless not_harmless not_harmless
    not_harmless not_harmless not_harmless not_harmless not_harmless not_harmless) (fold-ObjectPatProp Bool
    Bool Bool Bool Bool Bool Bool Bool Bool Bool Bool Bool Bool Bool Bool not_harmless not_harmless in_harmless
    not_harmless not_harmless not_harmless not_harmless not_harmless not_harmless not_harmless not_harmless
    not_harmless not_harmless not_harmless not_harmless) (fold-Pat Bool Bool Bool Bool Bool Bool Bool Bool Bool
    Bool Bool Bool Bool Bool Bool not_harmless not_harmless in_harmless not_harmless not_harmless not_harmless
    not_harmless not_harmless not_harmless not_harmless not_harmless not_harmless not_harmless not_harmless
    not_harmless) (fold-Prop Bool Bool Bool Bool Bool Bool Bool Bool Bool Bool Bool Bool Bool Bool Bool
    not_harmless not_harmless in_harmless not_harmless not_harmless not_harmless not_harmless not_harmless
    not_harmless not_harmless not_harmless not_harmless not_harmless not_harmless not_harmless) (fold-Stmt Bool
    Bool Bool Bool Bool Bool Bool Bool Bool Bool Bool Bool Bool Bool Bool not_harmless not_harmless in_harmless
    not_harmless not_harmless not_harmless not_harmless not_harmless not_harmless not_harmless not_harmless
    not_harmless not_harmless not_harmless not_harmless) (fold-Class Bool Bool Bool Bool Bool Bool Bool Bool
    Bool Bool Bool Bool Bool Bool Bool not_harmless not_harmless in_harmless not_harmless not_harmless
    not_harmless not_harmless not_harmless not_harmless not_harmless not_harmless not_harmless not_harmless
    not_harmless not_harmless) (fold-Function Bool Bool Bool Bool Bool Bool Bool Bool Bool Bool Bool Bool Bool
    Bool Bool not_harmless not_harmless in_harmless not_harmless not_harmless not_harmless not_harmless
    not_harmless not_harmless not_harmless not_harmless not_harmless not_harmless not_harmless not_harmless)
    (fold-Param Bool Bool Bool Bool Bool Bool Bool Bool Bool Bool Bool Bool Bool Bool Bool not_harmless
    not_harmless in_harmless not_harmless not_harmless not_harmless not_harmless not_harmless not_harmless
    not_harmless not_harmless not_harmless not_harmless not_harmless not_harmless) (fold-SwitchCase Bool Bool
    Bool Bool Bool Bool Bool Bool Bool Bool Bool Bool Bool Bool Bool not_harmless not_harmless in_harmless
    not_harmless not_harmless not_harmless not_harmless not_harmless not_harmless not_harmless not_harmless
    not_harmless not_harmless not_harmless not_harmless) (fold-TsEnumMember Bool Bool Bool Bool Bool Bool Bool
    Bool Bool Bool Bool Bool Bool Bool Bool not_harmless not_harmless in_harmless not_harmless not_harmless
    not_harmless not_harmless not_harmless not_harmless not_harmless not_harmless not_harmless not_harmless
    not_harmless not_harmless) (fold-VarDeclarator Bool Bool Bool Bool Bool Bool Bool Bool Bool Bool Bool Bool
    Bool Bool Bool not_harmless not_harmless in_harmless not_harmless not_harmless not_harmless not_harmless
    not_harmless not_harmless not_harmless not_harmless not_harmless not_harmless not_harmless not_harmless)

pub harmless_roll : (w : ExprParts) → is_harmless (roll-Expr w) ≡ in_harmless (harmless_parts w)
unfolding is_harmless
harmless_roll w =
    fold-roll-Expr Bool Bool Bool Bool Bool Bool Bool Bool Bool Bool Bool Bool Bool Bool Bool not_harmless
    not_harmless in_harmless not_harmless not_harmless not_harmless not_harmless not_harmless not_harmless
    not_harmless not_harmless not_harmless not_harmless not_harmless not_harmless w

abbrev pub assigned_parts : ExprParts → Beside (Option Expr) Expr-F
assigned_parts =
    map-Expr ClassMember Decl Expr ModuleDecl ModuleItem ObjectPatProp Pat Prop Stmt Class Function Param
    SwitchCase TsEnumMember VarDeclarator (ClassMember × Option Expr) (Decl × Option Expr) (Expr × Option Expr)
    (ModuleDecl × Option Expr) (ModuleItem × Option Expr) (ObjectPatProp × Option Expr) (Pat × Option Expr)
    (Prop × Option Expr) (Stmt × Option Expr) (Class × Option Expr) (Function × Option Expr) (Param × Option
    Expr) (SwitchCase × Option Expr) (TsEnumMember × Option Expr) (VarDeclarator × Option Expr) (λ it. (
      it,
      para-ClassMember (Option Expr) (Option Expr) (Option Expr) (Option Expr) (Option Expr) (Option Expr)
          (Option Expr) (Option Expr) (Option Expr) (Option Expr) (Option Expr) (Option Expr) (Option Expr) (Option
          Expr) (Option Expr) none_assigned none_assigned in_assigned none_assigned none_assigned none_assigned
          none_assigned none_assigned none_assigned none_assigned none_assigned none_assigned none_assigned
          none_assigned none_assigned it,
    )) (λ it. (
      it,
      para-Decl (Option Expr) (Option Expr) (Option Expr) (Option
          Expr) (Option Expr) (Option Expr) (Option Expr) (Option Expr) (Option Expr) (Option Expr) (Option Expr)
          (Option Expr) (Option Expr) (Option Expr) (Option Expr) none_assigned none_assigned in_assigned
          none_assigned none_assigned none_assigned none_assigned none_assigned none_assigned none_assigned
          none_assigned none_assigned none_assigned none_assigned none_assigned it,
    )) (λ it. (
      it,
      para-Expr (Option
          Expr) (Option Expr) (Option Expr) (Option Expr) (Option Expr) (Option Expr) (Option Expr) (Option Expr)
          (Option Expr) (Option Expr) (Option Expr) (Option Expr) (Option Expr) (Option Expr) (Option Expr)
          none_assigned none_assigned in_assigned none_assigned none_assigned none_assigned none_assigned
          none_assigned none_assigned none_assigned none_assigned none_assigned none_assigned none_assigned
          none_assigned it,
    )) (λ it. (
      it,
      para-ModuleDecl (Option Expr) (Option Expr) (Option Expr) (Option Expr)
          (Option Expr) (Option Expr) (Option Expr) (Option Expr) (Option Expr) (Option Expr) (Option Expr) (Option
          Expr) (Option Expr) (Option Expr) (Option Expr) none_assigned none_assigned in_assigned none_assigned
          none_assigned none_assigned none_assigned none_assigned none_assigned none_assigned none_assigned
          none_assigned none_assigned none_assigned none_assigned it,
    )) (λ it. (
      it,
      para-ModuleItem (Option Expr)
          (Option Expr) (Option Expr) (Option Expr) (Option Expr) (Option Expr) (Option Expr) (Option Expr) (Option
          Expr) (Option Expr) (Option Expr) (Option Expr) (Option Expr) (Option Expr) (Option Expr) none_assigned
          none_assigned in_assigned none_assigned none_assigned none_assigned none_assigned none_assigned
          none_assigned none_assigned none_assigned none_assigned none_assigned none_assigned none_assigned it,
    )) (λ
    it. (
      it,
      para-ObjectPatProp (Option Expr) (Option Expr) (Option Expr) (Option Expr) (Option Expr) (Option
          Expr) (Option Expr) (Option Expr) (Option Expr) (Option Expr) (Option Expr) (Option Expr) (Option Expr)
          (Option Expr) (Option Expr) none_assigned none_assigned in_assigned none_assigned none_assigned
          none_assigned none_assigned none_assigned none_assigned none_assigned none_assigned none_assigned
          none_assigned none_assigned none_assigned it,
    )) (λ it. (
      it,
      para-Pat (Option Expr) (Option Expr) (Option
          Expr) (Option Expr) (Option Expr) (Option Expr) (Option Expr) (Option Expr) (Option Expr) (Option Expr)
          (Option Expr) (Option Expr) (Option Expr) (Option Expr) (Option Expr) none_assigned none_assigned
          in_assigned none_assigned none_assigned none_assigned none_assigned none_assigned none_assigned
          none_assigned none_assigned none_assigned none_assigned none_assigned none_assigned it,
    )) (λ it. (
      it,
      para-Prop (Option Expr) (Option Expr) (Option Expr) (Option Expr) (Option Expr) (Option Expr) (Option Expr)
          (Option Expr) (Option Expr) (Option Expr) (Option Expr) (Option Expr) (Option Expr) (Option Expr) (Option
          Expr) none_assigned none_assigned in_assigned none_assigned none_assigned none_assigned none_assigned
          none_assigned none_assigned none_assigned none_assigned none_assigned none_assigned none_assigned
          none_assigned it,
    )) (λ it. (
      it,
      para-Stmt (Option Expr) (Option Expr) (Option Expr) (Option Expr) (Option
          Expr) (Option Expr) (Option Expr) (Option Expr) (Option Expr) (Option Expr) (Option Expr) (Option Expr)
          (Option Expr) (Option Expr) (Option Expr) none_assigned none_assigned in_assigned none_assigned
          none_assigned none_assigned none_assigned none_assigned none_assigned none_assigned none_assigned
          none_assigned none_assigned none_assigned none_assigned it,
    )) (λ it. (
      it,
      para-Class (Option Expr) (Option
          Expr) (Option Expr) (Option Expr) (Option Expr) (Option Expr) (Option Expr) (Option Expr) (Option Expr)
          (Option Expr) (Option Expr) (Option Expr) (Option Expr) (Option Expr) (Option Expr) none_assigned
          none_assigned in_assigned none_assigned none_assigned none_assigned none_assigned none_assigned
          none_assigned none_assigned none_assigned none_assigned none_assigned none_assigned none_assigned it,
    )) (λ
    it. (
      it,
      para-Function (Option Expr) (Option Expr) (Option Expr) (Option Expr) (Option Expr) (Option Expr)
          (Option Expr) (Option Expr) (Option Expr) (Option Expr) (Option Expr) (Option Expr) (Option Expr) (Option
          Expr) (Option Expr) none_assigned none_assigned in_assigned none_assigned none_assigned none_assigned
          none_assigned none_assigned none_assigned none_assigned none_assigned none_assigned none_assigned
          none_assigned none_assigned it,
    )) (λ it. (
      it,
      para-Param (Option Expr) (Option Expr) (Option Expr) (Option
          Expr) (Option Expr) (Option Expr) (Option Expr) (Option Expr) (Option Expr) (Option Expr) (Option Expr)
          (Option Expr) (Option Expr) (Option Expr) (Option Expr) none_assigned none_assigned in_assigned
          none_assigned none_assigned none_assigned none_assigned none_assigned none_assigned none_assigned
          none_assigned none_assigned none_assigned none_assigned none_assigned it,
    )) (λ it. (
      it,
      para-SwitchCase
          (Option Expr) (Option Expr) (Option Expr) (Option Expr) (Option Expr) (Option Expr) (Option Expr) (Option
          Expr) (Option Expr) (Option Expr) (Option Expr) (Option Expr) (Option Expr) (Option Expr) (Option Expr)
          none_assigned none_assigned in_assigned none_assigned none_assigned none_assigned none_assigned
          none_assigned none_assigned none_assigned none_assigned none_assigned none_assigned none_assigned
          none_assigned it,
    )) (λ it. (
      it,
      para-TsEnumMember (Option Expr) (Option Expr) (Option Expr) (Option Expr)
          (Option Expr) (Option Expr) (Option Expr) (Option Expr) (Option Expr) (Option Expr) (Option Expr) (Option
          Expr) (Option Expr) (Option Expr) (Option Expr) none_assigned none_assigned in_assigned none_assigned
          none_assigned none_assigned none_assigned none_assigned none_assigned none_assigned none_assigned
          none_assigned none_assigned none_assigned none_assigned it,
    )) (λ it. (
      it,
      para-VarDeclarator (Option Expr)
          (Option Expr) (Option Expr) (Option Expr) (Option Expr) (Option Expr) (Option Expr) (Option Expr) (Option
          Expr) (Option Expr) (Option Expr) (Option Expr) (Option Expr) (Option Expr) (Option Expr) none_assigned
          none_assigned in_assigned none_assigned none_assigned none_assigned none_assigned none_assigned
          none_assigned none_assigned none_assigned none_assigned none_assigned none_assigned none_assigned it,
    ))

pub assigned_roll : (w : ExprParts) → assigned_last (roll-Expr w) ≡ in_assigned (assigned_parts w)
unfolding assigned_last
assigned_roll w =
    para-roll-Expr (Option Expr) (Option Expr) (Option Expr) (Option Expr) (Option Expr) (Option Expr) (Option
    Expr) (Option Expr) (Option Expr) (Option Expr) (Option Expr) (Option Expr) (Option Expr) (Option Expr)
    (Option Expr) none_assigned none_assigned in_assigned none_assigned none_assigned none_assigned
    none_assigned none_assigned none_assigned none_assigned none_assigned none_assigned none_assigned
    none_assigned none_assigned w
