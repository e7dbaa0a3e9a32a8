use Rattle.definition_laws.proofs.worlds.Simulations.{refused_alike}
use Rattle.definition_laws.proofs.worlds.a_refused_simulation_refuses_the_change.Goals as goal

pub returns : goal.returns
returns c = λ command read files expected chosen other clash. refused_alike c.a_choice_is_unique.ensures command read files expected chosen other clash
