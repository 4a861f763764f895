-- The words of a shelf, and the masks of one place rewritten.
use Rattle.std.proofs.Common.{◌≡◌, ℕ, ◌≤◌, List, length, set, sym, ap, ◌∙◌, subst, ap₂, inl, inr, arith}
use Rattle.std.proofs.lemmas.Bool.{cases_eq}
use Rattle.masks.specs.Masks.{Masks, Paired, codes_at, codes_of, held_in, mask_at}
use Rattle.shelf.proofs.Holding.{changed_at}

pub empty_pair : Paired 0 0
empty_pair = record { literals_fit = omega arith; opposites_fit = omega arith; apart = omega arith }

pub same_pair : (a b x y : ℕ) → a ≡ x → b ≡ y → Paired x y → Paired a b
same_pair a b x y ea eb pair = subst (λ (m : ℕ). Paired m b) (sym ea) (subst (Paired x) (sym eb) pair)

-- the words `after` have the masks a and b at p, and are else as they were
module _ (P p a b : ℕ) (ws after : List ℕ) (literals : mask_at after p 0 ≡ a) (opposites : mask_at after p 1 ≡ b) (others : (q s : ℕ) → s ≤ 1 → (q ≡ p → ⊥) → mask_at after q s ≡ mask_at ws q s) where
  pub held_changed : held_in P after ≡ set (held_in P ws) p (codes_of a b)
  held_changed =
      changed_at (codes_at ws) (codes_at after) P p (codes_of a b) (ap₂ codes_of literals opposites)
      (λ q ne. ap₂ codes_of (others q 0 (omega arith) ne) (others q 1 (omega arith) ne))

  pub masks_changed : Masks P ws → length after ≡ length ws → Paired a b → Masks P after
  masks_changed m same here =
      record {
        places_few = m.places_few;
        room = omega (arith, m.room);
        each = λ q h. elim (cases_eq q p) as (λ _. Paired (mask_at after q 0) (mask_at after q 1)) [
          | inl e ↦ same_pair (mask_at after q 0) (mask_at after q 1) a b (ap (λ (x : ℕ). mask_at after x 0) e ∙ literals) (ap (λ (x : ℕ). mask_at after x 1) e ∙ opposites) here
          | inr ne ↦ same_pair (mask_at after q 0) (mask_at after q 1) (mask_at ws q 0) (mask_at ws q 1) (others q 0 (omega arith) ne) (others q 1 (omega arith) ne) (m.each q h)
        ];
      }
