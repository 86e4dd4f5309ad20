-- What is formed in two functions names nothing local, so it is formed outside of all.
use Rattle.std.proofs.Common.{◌≡◌, ◌≢◌, ℕ, Some, None, ap, sym, ◌∙◌}
use Rattle.sp_types.specs.Types.{CType}
use Rattle.sp_ir.specs.Commands.{Expression, number, address, decay, read, convert, unary, binary, compare, move, distance, Lvalue, direct, through, field}
use Rattle.sp_ir.specs.Programs.{Object}
use Rattle.sp_ir.specs.Formed.{Table, is_local, IsDirect, IsExpression, IsLvalue}
use Rattle.sp_lower_starts_laws.proofs.Lists.{some_is}

module _ (p : Table) (j k : ℕ) (apart : j ≢ k) where
  direct_free : (n : ℕ) (t : CType) → IsDirect p (Some j) n t → IsDirect p (Some k) n t → IsDirect p None n t
  direct_free n t a b = record {
    object = a.object;
    there = a.there;
    of = a.of;
    no_site = a.no_site;
    own = λ h.
        let same : b.object ≡ a.object = some_is b.object a.object (sym b.there ∙ a.there) in
        let first : a.object.function ≡ Some j = a.own h in
        let second : b.object.function ≡ Some k = b.own (ap (λ (o : Object). is_local o.kind) same ∙ h) in
        absurd (apart (some_is j k (sym first ∙ ap (λ (o : Object). o.function) (sym same) ∙ second)));
    no_floating = a.no_floating;
  }

  mutual
    pub expression_free : (e : Expression) → IsExpression p (Some j) e → IsExpression p (Some k) e → IsExpression p None e
    expression_free (number z n) a b = a
    expression_free (address l) a b = lvalue_free l a b
    expression_free (decay l) a b = (lvalue_free l a.0 b.0, a.1)
    expression_free (read l) a b = (lvalue_free l a.0 b.0, a.1, a.2)
    expression_free (convert t e) a b = (expression_free e a.0 b.0, a.1, a.2, a.3)
    expression_free (unary op n e) a b = (expression_free e a.0 b.0, a.1, a.2)
    expression_free (binary op n x y at) a b = (expression_free x a.0 b.0, expression_free y a.1 b.1, a.2, a.3, a.4)
    expression_free (compare op x y) a b = (expression_free x a.0 b.0, expression_free y a.1 b.1, a.2, a.3, a.4)
    expression_free (move x y back size) a b = (expression_free x a.0 b.0, expression_free y a.1 b.1, a.2, a.3, a.4, a.5)
    expression_free (distance x y size) a b = (expression_free x a.0 b.0, expression_free y a.1 b.1, a.2, a.3, a.4, a.5)

    lvalue_free : (l : Lvalue) → IsLvalue p (Some j) l → IsLvalue p (Some k) l → IsLvalue p None l
    lvalue_free (direct n t) a b = direct_free n t a b
    lvalue_free (through e t at) a b = (expression_free e a.0 b.0, a.1, a.2, a.3, a.4)
    lvalue_free (field l n t) a b = (lvalue_free l a.0 b.0, a.1, a.2)
