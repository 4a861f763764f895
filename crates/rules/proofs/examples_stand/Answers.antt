use Rattle.std.proofs.Common.{refl}
use Rattle.shelf.specs.Literals.{among, put, stands}
use Rattle.shelf.specs.Room.{roomy}
use Rattle.rules.specs.Clauses.{rises, same_codes, without, into, merge, compensations, vanishes}
use Rattle.rules.specs.Plans.{meets, bits}
use Rattle.rules.specs.Filling.{none_negative, open_does, hard_does, soft_does, seal_does}
use Rattle.rules.specs.Showing.{hard_met, owed, partial_sums, summed, show_does}
use Rattle.rules.specs.Results.{implied, kept, short_enough, has_empty, laid}
use Rattle.rules.specs.Steps.{split_does, join_does, resolve_does, define_does, harden_does}
use Rattle.rules.specs.Claims.{cheapest_does, impossible_does}
use Rattle.rules.specs.Machine.{answers, after_all}
use Rattle.rules.proofs.examples_stand.Goals as goal

pub returns : goal.returns
unfolding among put stands rises without into merge compensations vanishes meets bits roomy none_negative open_does hard_does soft_does seal_does hard_met owed partial_sums summed show_does kept short_enough has_empty laid same_codes implied split_does join_does resolve_does define_does harden_does cheapest_does impossible_does answers after_all
returns c = record {
  one_compensation_stands = (refl, refl, refl);
  whole_case_stands = (refl, refl, refl, refl);
  used_up_stands = (refl, refl, refl);
  used_up_for_all_stands = (refl, refl, refl);
  two_tiers_stands = (refl, refl, refl);
  two_tiers_granted_stands = refl;
  full_reach_stands = refl;
  no_variables_stands = refl;
  no_plan_stands = refl;
  claimed_early_stands = refl;
  hardening_stands = (refl, refl);
  splitting_stands = (refl, refl, refl);
  a_definition_stands = (refl, refl, refl);
}
