-- Declarations behind `declare` or not, and members that are made `readonly`, form by form.
use Rattle.std.specs.Prelude.{Bool, true, List, Option}
use Rattle.std.proofs.Common.{◌≡◌, sym, ap, ◌∙◌}
use Rattle.base.specs.declared.range.Range.{Range}
use Rattle.es_ast.specs.declared.ts.leaf.Ident.{Ident}
use Rattle.es_ast.specs.declared.ts.leaf.Str.{Str}
use Rattle.es_ast.specs.declared.ts.leaf.TsEntityName.{TsEntityName}
use Rattle.es_ast.specs.declared.ts.leaf.TsKey.{TsKey}
use Rattle.es_ast.specs.declared.ts.ts.TsFnParam.{TsFnParam}
use Rattle.es_ast.specs.declared.ts.ts.TsPart.{TsPart}
use Rattle.es_ast.specs.declared.ts.ts.TsTupleElement.{TsTupleElement}
use Rattle.es_ast.specs.declared.ts.ts.TsType.{TsType}
use Rattle.es_ast.specs.declared.ts.ts.TsType.TheOpen.{TsTypeElement-F}
use Rattle.es_ast.specs.declared.ts.ts.TsTypeElement.{TsTypeElement, roll-TsTypeElement, out-TsTypeElement, out-roll-TsTypeElement}
use Rattle.es_ast.specs.declared.ts.ts.TsTypeElement.TheVariants as vTsMember
use Rattle.es_ast.specs.declared.ts.ts.TsTypeParam.{TsTypeParam}
use Rattle.es_ast.specs.declared.leaf.VarDeclKind.{VarDeclKind}
use Rattle.es_ast.specs.declared.ast.Class.{Class}
use Rattle.es_ast.specs.declared.ast.ClassMember.TheOpen.{Decl-F}
use Rattle.es_ast.specs.declared.ast.Decl.{Decl, roll-Decl, out-Decl, out-roll-Decl}
use Rattle.es_ast.specs.declared.ast.Decl.TheVariants as vDecl
use Rattle.es_ast.specs.declared.ast.Function.{Function}
use Rattle.es_ast.specs.declared.ast.ModuleItem.{ModuleItem}
use Rattle.es_ast.specs.declared.ast.TsEnumMember.{TsEnumMember}
use Rattle.es_ast.specs.declared.ast.VarDeclarator.{VarDeclarator}
use Rattle.es_site.specs.Parts.{Whole}
use Rattle.es_changed.specs.Formed.{declared_by, with_declare, readonly_by, readonly_member}

-- ---- declarations
with_at : (declare : Bool) (it : Decl) (w : Whole Decl-F) → roll-Decl w ≡ it
    → with_declare declare it ≡ declared_by declare w
unfolding with_declare
with_at declare it w rolls = ap (declared_by declare) (sym (ap out-Decl rolls) ∙ out-roll-Decl w)

pub with_class : (declare before : Bool) (class : Class) (span : Range)
    → with_declare declare (vDecl.Class before class span) ≡ vDecl.Class declare class span
with_class declare before class span =
    with_at declare _ (Decl-F.Decl::Class before class span) (vDecl.rolls-Class before class span)

pub with_fn : (declare before : Bool) (function : Function) (span : Range)
    → with_declare declare (vDecl.Fn before function span) ≡ vDecl.Fn declare function span
with_fn declare before function span =
    with_at declare _ (Decl-F.Decl::Fn before function span) (vDecl.rolls-Fn before function span)

pub with_var : (declare before : Bool) (kind : VarDeclKind) (decls : List VarDeclarator) (span : Range)
    → with_declare declare (vDecl.Var before kind decls span) ≡ vDecl.Var declare kind decls span
with_var declare before kind decls span =
    with_at declare _ (Decl-F.Var before kind decls span) (vDecl.rolls-Var before kind decls span)

pub with_interface : (declare before : Bool) (id : Ident) (type_params : Option TsPart) (extends : Option TsPart)
    (body : Option TsPart) (span : Range)
    → with_declare declare (vDecl.TsInterface before id type_params extends body span)
    ≡ vDecl.TsInterface declare id type_params extends body span
with_interface declare before id type_params extends body span =
    with_at declare _ (Decl-F.TsInterface before id type_params extends body span)
    (vDecl.rolls-TsInterface before id type_params extends body span)

pub with_alias : (declare before : Bool) (id : Ident) (type_params : Option TsPart) (ty : Option TsPart) (span : Range)
    → with_declare declare (vDecl.TsTypeAlias before id type_params ty span)
    ≡ vDecl.TsTypeAlias declare id type_params ty span
with_alias declare before id type_params ty span =
    with_at declare _ (Decl-F.TsTypeAlias before id type_params ty span)
    (vDecl.rolls-TsTypeAlias before id type_params ty span)

pub with_enum : (declare before : Bool) (is_const : Bool) (id : Ident) (members : List TsEnumMember) (span : Range)
    → with_declare declare (vDecl.TsEnum before is_const id members span)
    ≡ vDecl.TsEnum declare is_const id members span
with_enum declare before is_const id members span =
    with_at declare _ (Decl-F.TsEnum before is_const id members span)
    (vDecl.rolls-TsEnum before is_const id members span)

pub with_namespace : (declare before : Bool) (is_module : Bool) (id : TsEntityName) (body : List ModuleItem)
    (span : Range)
    → with_declare declare (vDecl.TsNamespace before is_module id body span)
    ≡ vDecl.TsNamespace declare is_module id body span
with_namespace declare before is_module id body span =
    with_at declare _ (Decl-F.TsNamespace before is_module id body span)
    (vDecl.rolls-TsNamespace before is_module id body span)

pub with_module : (declare before : Bool) (id : Str) (has_body : Bool) (body : List ModuleItem) (span : Range)
    → with_declare declare (vDecl.TsModule before id has_body body span) ≡ vDecl.TsModule declare id has_body body span
with_module declare before id has_body body span =
    with_at declare _ (Decl-F.TsModule before id has_body body span) (vDecl.rolls-TsModule before id has_body body span)

pub with_global : (declare before : Bool) (body : List ModuleItem) (span : Range)
    → with_declare declare (vDecl.TsGlobal before body span) ≡ vDecl.TsGlobal declare body span
with_global declare before body span =
    with_at declare _ (Decl-F.TsGlobal before body span) (vDecl.rolls-TsGlobal before body span)

-- ---- members of types
readonly_at : (it : TsTypeElement) (w : TsTypeElement-F TsType TsTypeElement TsFnParam TsTupleElement TsTypeParam)
    → roll-TsTypeElement w ≡ it → readonly_member it ≡ readonly_by it w
unfolding readonly_member
readonly_at it w rolls = ap (readonly_by it) (sym (ap out-TsTypeElement rolls) ∙ out-roll-TsTypeElement w)

pub readonly_property : (readonly : Bool) (key : TsKey) (mark : Bool) (ty : Option TsType) (span : Range)
    → readonly_member (vTsMember.PropertySignature readonly key mark ty span)
    ≡ vTsMember.PropertySignature true key mark ty span
readonly_property readonly key mark ty span =
    readonly_at _ (TsTypeElement-F.PropertySignature readonly key mark ty span)
    (vTsMember.rolls-PropertySignature readonly key mark ty span)

pub readonly_index : (readonly : Bool) (name : Ident) (of : TsType) (ty : Option TsType) (span : Range)
    → readonly_member (vTsMember.IndexSignature readonly name of ty span) ≡ vTsMember.IndexSignature true name of
    ty span
readonly_index readonly name of ty span =
    readonly_at _ (TsTypeElement-F.IndexSignature readonly name of ty span)
    (vTsMember.rolls-IndexSignature readonly name of ty span)
