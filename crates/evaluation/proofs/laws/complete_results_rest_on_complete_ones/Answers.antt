use Rattle.evaluation.proofs.CompletesLaws.{complete-count, complete-many, complete-one, complete-pick, complete-size, complete-sum, complete-switch, complete-through-item, complete-two, down-never-completes}
use Rattle.evaluation.proofs.laws.complete_results_rest_on_complete_ones.Goals as goal

pub returns : goal.returns
returns g c = record {
  down = down-never-completes;
  many = complete-many;
  one = complete-one;
  two = complete-two;
  switch = complete-switch;
  pick = complete-pick;
  item = complete-through-item;
  size = complete-size;
  sum = complete-sum;
  count = complete-count;
}
