mod Lemmas
