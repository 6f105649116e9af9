mod Dots
