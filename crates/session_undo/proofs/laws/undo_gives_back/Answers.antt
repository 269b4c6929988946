use Rattle.session_undo.proofs.UndoneLaws.{undone_made, redone_made}
use Rattle.session_undo.proofs.laws.undo_gives_back.Goals as goal

pub returns : goal.returns
returns c = record {
  answers = λ cs p well fit. (undone_made cs p well fit).0;
  earlier = λ cs p well fit. (undone_made cs p well fit).1;
  redo = redone_made;
}
