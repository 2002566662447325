-- The operator at a place is the one that the definitions have there. Assumes nothing.
use mathlib.Core.Path.{◌≡◌, refl}
use Prim.Native.Nat.{ℕ, zero, suc}
use lib.ListN.{get_or}
use Rattle.grammar.specs.Coded.{assign_of, bin_of, unary_of}
use Rattle.rules.specs.Ast.{unary_ops, bin_ops, assign_ops, Neg, Shr, Set}
use Rattle.rules.specs.Operators.{unary_meant, bin_meant, assign_meant}

pub unary_told : (n : ℕ) → unary_meant (unary_of n) ≡ get_or unary_ops n Neg
unfolding unary_meant
unary_told zero = refl
unary_told (suc zero) = refl
unary_told (suc (suc n)) = refl

pub bin_told : (n : ℕ) → bin_meant (bin_of n) ≡ get_or bin_ops n Shr
unfolding bin_meant
bin_told zero = refl
bin_told (suc zero) = refl
bin_told (suc (suc zero)) = refl
bin_told (suc (suc (suc zero))) = refl
bin_told (suc (suc (suc (suc zero)))) = refl
bin_told (suc (suc (suc (suc (suc zero))))) = refl
bin_told (suc (suc (suc (suc (suc (suc zero)))))) = refl
bin_told (suc (suc (suc (suc (suc (suc (suc zero))))))) = refl
bin_told (suc (suc (suc (suc (suc (suc (suc (suc zero)))))))) = refl
bin_told (suc (suc (suc (suc (suc (suc (suc (suc (suc zero))))))))) = refl
bin_told (suc (suc (suc (suc (suc (suc (suc (suc (suc (suc zero)))))))))) = refl
bin_told (suc (suc (suc (suc (suc (suc (suc (suc (suc (suc (suc zero))))))))))) = refl
bin_told (suc (suc (suc (suc (suc (suc (suc (suc (suc (suc (suc (suc zero)))))))))))) = refl
bin_told (suc (suc (suc (suc (suc (suc (suc (suc (suc (suc (suc (suc (suc zero))))))))))))) = refl
bin_told (suc (suc (suc (suc (suc (suc (suc (suc (suc (suc (suc (suc (suc (suc n)))))))))))))) = refl

pub assign_told : (n : ℕ) → assign_meant (assign_of n) ≡ get_or assign_ops n Set
assign_told zero = refl
assign_told (suc zero) = refl
assign_told (suc (suc zero)) = refl
assign_told (suc (suc (suc n))) = refl
