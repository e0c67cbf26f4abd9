use Rattle.std.proofs.Common.{◌≡◌, ℕ, List, Bool, true, false, nat_eq, refl, sym, ap, ◌∙◌, arith}
use Rattle.std.specs.Str.{bytes_eq}
use Rattle.std.proofs.lemmas.Bool.Decides.{nat_tests}
use Rattle.std.proofs.lemmas.Slice.Eq.{bytes_eq-Decides}
use Rattle.desk_base.specs.Code.{IsCode, code_word}
use Rattle.desk_base.proofs.CodeLemmas.{code_word-injective}
use Rattle.desk_base.proofs.code.CodePartialEq.eq.Goals as goal

words-tell : (a b : List ℕ) (m n : ℕ) → IsCode a → IsCode b → m ≡ code_word a → n ≡ code_word b → nat_eq m n ≡ bytes_eq a b
words-tell a b m n of_a of_b m_is n_is = go (nat_eq m n) (bytes_eq a b) refl refl
  where
    go : (numbers texts : Bool) → nat_eq m n ≡ numbers → bytes_eq a b ≡ texts → numbers ≡ texts
    go true texts x y =
        let same : m ≡ n = grind (arith, nat_tests, x) in
        sym ((bytes_eq-Decides a b).1 (code_word-injective a b of_a of_b (sym m_is ∙ same ∙ n_is))) ∙ y
    go false true x y =
        let same : m ≡ n = m_is ∙ ap code_word ((bytes_eq-Decides a b).0 y) ∙ sym n_is in
        grind (arith, nat_tests, x, same)
    go false false x y = refl

pub returns : goal.returns
returns c = words-tell c.args.self.now c.args.other.now c.word.result c.word-2.result c.word.ensures.code c.word-2.ensures.code c.word.ensures.value c.word-2.ensures.value
