mod MaskLemmas
