mod Took
