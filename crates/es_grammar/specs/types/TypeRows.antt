-- The alternatives of the types' table that make a node.

pub data NodeKind : Type 0 where
  FunctionType ConstructorType ConditionalType : NodeKind
  UnionType LeadingUnionType IntersectionType LeadingIntersectionType : NodeKind
  TypeOperator InferType ArrayTypes : NodeKind
  KeywordType ThisType WordType StrType NumberType TemplateType TemplateTypes : NodeKind
  TypeQuery ParenthesizedType MembersType TupleType MappedType : NodeKind
  Entity Reference ImportType TypeArguments TypeParameters : NodeKind
  RestElement LabelledElement OptionalElement : NodeKind
  CallSignature ConstructSignature IndexSignature : NodeKind
  AccessorSignature MethodSignature PropertySignature ReadonlyProperty : NodeKind
  WordKey StrKey NumberKey ComputedKey : NodeKind
  AssertsResult PredicateResult : NodeKind
  Parameters ThisParameter MarkedParameter : NodeKind
  NamePattern ArrayPattern ObjectPattern RestPattern RestProperty KeyProperty NameProperty : NodeKind
  WordPatternKey StrPatternKey NumberPatternKey : NodeKind
