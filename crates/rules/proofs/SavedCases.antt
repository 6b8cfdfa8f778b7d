-- The worked cases of #101, computed. Assumes nothing.
use mathlib.Core.Path.{refl}
use Rattle.rules.specs.Utf8.{formed, valid_after}
use Rattle.rules.specs.Saved.{records_of, tokens_in, chains, end_of, opening}
use Rattle.rules.specs.SavedCases.{AllSaved, saved_cases, AllRefused, refused_cases, AllWrong, wrong_lists}

pub saved : AllSaved saved_cases
unfolding formed valid_after records_of tokens_in chains end_of opening
saved = ((refl, refl, refl, refl, refl, refl), ((refl, refl, refl, refl, refl, refl), ((refl, refl, refl, refl, refl, refl), ((refl, refl, refl, refl, refl, refl), ((refl, refl, refl, refl, refl, refl), ((refl, refl, refl, refl, refl, refl), tt))))))

pub refused : AllRefused refused_cases
unfolding formed valid_after records_of tokens_in chains end_of opening
refused = (refl, (refl, (refl, (refl, (refl, (refl, (refl, (refl, (refl, (refl, (refl, (refl, (refl, (refl, (refl, (refl, (refl, (refl, (refl, (refl, (refl, tt)))))))))))))))))))))

pub wrong : AllWrong wrong_lists
unfolding chains end_of
wrong = (refl, (refl, (refl, (refl, (refl, (refl, (refl, tt)))))))
