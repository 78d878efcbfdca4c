use Rattle.ahead_laws.proofs.Hits.{hit-flags, hit-allowed}
use Rattle.ahead_laws.proofs.Halves.{read-there}
use Rattle.ahead_laws.proofs.table.what_a_word_reads_is_there.Goals as goal

pub returns : goal.returns
returns c = record {
  entry = λ x word hit e. hit-flags x.set x.params word hit e;
  allowed = λ x word hit range e. hit-allowed x.set x.params word hit range e;
  halves = λ x word hit lane half range e h. read-there x.params x.set word hit lane half range e h;
}
