use Rattle.std.proofs.Common.{sym, ap, ◌∙◌}
use Rattle.std.specs.Prelude.{pos}
use Rattle.std.proofs.lemmas.List.{length-replicate}
use Rattle.cost.specs.Figures.{zeros, plus}
use Rattle.cost.proofs.Groups as group
use Rattle.cost.proofs.laws.figures_stand.Goals as goal

pub returns : goal.returns
returns c =
    λ r.
    record {
      zeros_tiered = length-replicate r (pos 0);
      plus_tiered = λ xs ys p q. group.plus_length xs ys (p ∙ sym q) ∙ p;
      minus_tiered = λ xs ys p q. group.minus_length xs ys (p ∙ sym q) ∙ p;
      plus_comm = group.plus_comm;
      plus_assoc = group.plus_assoc;
      plus_zeros = λ xs p. ap (λ n. plus xs (zeros n)) (sym p) ∙ group.plus_zeros xs;
      plus_minus = λ xs ys p q. group.plus_minus xs ys (p ∙ sym q);
      order_same = group.order_same;
      order_equal = λ xs ys p q. group.order_equal xs ys (p ∙ sym q);
      order_flipped = group.order_flipped;
      order_less = λ xs ys zs p q s. group.order_less xs ys zs;
      order_plus = λ zs xs ys p q s. group.order_plus zs xs ys (s ∙ sym p);
    }
