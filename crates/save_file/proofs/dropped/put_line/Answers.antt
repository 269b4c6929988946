use Rattle.save_file.proofs.dropped.put_line.Goals as goal

pub returns : goal.returns
returns g c = rw (c.shortened.ensures.text, c.shortened-2.ensures.text, c.cut_word-kind.ensures.word, c.cut_word-name.ensures.word, c.cut_word-kind.ensures.behind) at c.put_words.ensures
