-- A shelf as it is made: its masks, and what it means.
use Rattle.std.proofs.Common.{◌≡◌, ℕ, ◌+◌, ◌*◌, ◌/◌, ◌<◌, ◌≤◌, min, List, [], length, get_or, take, replicate, sym, ap, ◌∙◌, ap₂, arith}
use Rattle.std.proofs.lemmas.List.{get_or-replicate, get_or-take}
use Rattle.masks.specs.Made.{made_view}
use Rattle.masks.specs.Masks.{Masks, codes_at, codes_of, held_in, mask_at, used}
use Rattle.masks.proofs.Codes.{codes_none}
use Rattle.shelf.proofs.Holding.{free_at}
use Rattle.masks.proofs.Masking.{empty_pair, same_pair}

pub fresh_masks : (P : ℕ) (ws : List ℕ) → P ≤ 65535 → used P ≤ length ws → take (used P) ws ≡ replicate (used P) 0 → Masks P ws × (held_in P ws ≡ replicate P [])
fresh_masks P ws few room zeros =
    let at : (p s : ℕ) → p < P → s ≤ 1 → mask_at ws p s ≡ 0 = λ p s h le.
    let i : 2 * p + s < used P = omega arith in
    sym (get_or-take (used P) ws (2 * p + s) 0 i) ∙ ap (λ (l : List ℕ). get_or l (2 * p + s) 0) zeros ∙ get_or-replicate (used P) (2 * p + s) 0 0 i in (
      record {
        places_few = few;
        room = room;
        each = λ p h. same_pair (mask_at ws p 0) (mask_at ws p 1) 0 0 (at p 0 h (omega arith)) (at p 1 h (omega arith)) empty_pair;
      },
      free_at (codes_at ws) P (λ p h. ap₂ codes_of (at p 0 h (omega arith)) (at p 1 h (omega arith)) ∙ codes_none 64 1),
    )

pub made_is : (n P : ℕ) → P ≡ min (n / 2) 65535 → record { places = P; highest = 64; longest = 64; held = replicate P []; remainder = [] } ≡ made_view n
made_is n P e = ap (λ (P : ℕ). record { places = P; highest = 64; longest = 64; held = replicate P []; remainder = [] }) e
